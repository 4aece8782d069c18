pub mod Surrogates
pub mod Reading
pub mod OneAnswer
