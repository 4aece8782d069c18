pub mod Programs
pub mod Compiling
