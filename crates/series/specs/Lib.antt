pub mod Asked
pub mod Bars
pub mod Filled
pub mod Laws
pub mod Pushed
pub mod Stands
pub mod Stored
pub mod Symbols
