pub mod Counting
pub mod Reading
pub mod Agrees
pub mod Shapes
