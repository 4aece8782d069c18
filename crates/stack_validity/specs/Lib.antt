pub mod Types
pub mod Fits
pub mod Rules
pub mod Valid
pub mod Running
pub mod Law
