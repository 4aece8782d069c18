pub mod Ends
pub mod Operands
pub mod Pace
pub mod Quick
pub mod Steps
