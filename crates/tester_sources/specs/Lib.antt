pub mod Faults
pub mod Reading
pub mod Judging
pub mod Rules
