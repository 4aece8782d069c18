pub mod Types
pub mod Conversions
pub mod Operators
pub mod Overloads
