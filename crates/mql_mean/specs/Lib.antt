pub mod Errors
pub mod Answer
pub mod Values
