pub mod Characters
pub mod Entered
pub mod Gathered
pub mod Judged
pub mod Lists
pub mod OneAnswer
pub mod Parts
