pub mod Closing
pub mod Filled
pub mod Filling
pub mod Held
pub mod Lengths
pub mod Sums
pub mod Nets
pub mod Room
