pub mod Doubles
pub mod Strings
