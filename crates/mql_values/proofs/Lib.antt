pub mod Declared
pub mod Orders
pub mod Parts
