pub mod Pieces
pub mod Text
pub mod TokenSorts
pub mod Tokens
