pub mod Programs
pub mod Lists
pub mod Tables
