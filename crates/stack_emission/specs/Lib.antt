pub mod HasCode
pub mod Draft
pub mod Statements
pub mod Functions
pub mod Lowers
