pub mod Lines
pub mod OneText
pub mod Written
