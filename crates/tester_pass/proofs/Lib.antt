mod Leading
mod Loops
mod Times
mod OneRun
pub mod Once
pub mod Same
