pub mod Buffers
pub mod Few
pub mod Grows
pub mod Numbers
pub mod Priced
pub mod Standing
