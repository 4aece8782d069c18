pub mod Closing
pub mod Told
pub mod Variables
pub mod Rules
