pub mod Acts
pub mod Judge
pub mod Numbers
pub mod Rules
pub mod Tables
pub mod Accept
