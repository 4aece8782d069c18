pub mod Spans
pub mod Expressions
pub mod Stands
pub mod Follows
