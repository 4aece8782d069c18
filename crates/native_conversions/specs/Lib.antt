pub mod Conversions
pub mod Days
pub mod LowBits
pub mod Stretches
