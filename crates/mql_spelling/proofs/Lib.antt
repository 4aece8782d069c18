pub mod Digits
pub mod Escapes
pub mod LongestPiece
pub mod Powers
pub mod ReservedWords
pub mod Signs
pub mod Spelled
