mod Rows
pub mod Each
mod Cutting
mod Types
mod Values
