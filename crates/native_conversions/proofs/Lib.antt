pub mod Calendar
pub mod Stretched
pub mod Laws
pub mod Numbers
