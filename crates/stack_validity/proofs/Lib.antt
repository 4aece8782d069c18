pub mod Cells
pub mod Values
pub mod Keeps
pub mod Elements
pub mod Lists
pub mod Parts
pub mod Stores
pub mod Computing
pub mod Operating
pub mod Effects
pub mod Beginnings
pub mod Calling
pub mod Talking
pub mod Natives
pub mod Lending
pub mod Going
pub mod Whole
mod Sample
