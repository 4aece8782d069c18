pub mod Values
pub mod Sources
