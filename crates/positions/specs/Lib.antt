pub mod Acts
pub mod CloseBy
pub mod Conserved
pub mod Fills
pub mod Money
