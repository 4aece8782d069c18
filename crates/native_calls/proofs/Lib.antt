pub mod Loans
pub mod Soundness
pub mod Putting
pub mod Computed
pub mod Acting
pub mod Told
pub mod ByKind
pub mod Calling
