pub mod Loops
pub mod Nearest
pub mod Windows
