pub mod Writing
pub mod Digits
pub mod CodeLines
