pub mod Heads
pub mod Operands
pub mod Resets
pub mod Slots
