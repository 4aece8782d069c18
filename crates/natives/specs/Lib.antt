pub mod Constants
pub mod Names
pub mod Signatures
pub mod Structures
