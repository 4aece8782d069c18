pub mod PowerSteps
pub mod Roots
mod Samples
pub mod Sizes
