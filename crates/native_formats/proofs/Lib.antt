pub mod Flags
pub mod Letters
pub mod Piecewise
pub mod Sixteens
