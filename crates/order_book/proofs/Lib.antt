pub mod Books
pub mod Lower
