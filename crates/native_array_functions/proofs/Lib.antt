pub mod Copied
pub mod CopyRead
pub mod Passed
