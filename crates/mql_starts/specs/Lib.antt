pub mod Starts
pub mod Declarations
