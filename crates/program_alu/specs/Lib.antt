pub mod Arithmetic
pub mod Comparison
pub mod Extension
pub mod Swap
