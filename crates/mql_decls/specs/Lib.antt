pub mod Declarations
pub mod Makes
pub mod Rules
pub mod Expands
