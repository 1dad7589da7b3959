pub mod Kept
pub mod Tries
