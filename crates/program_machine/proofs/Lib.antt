pub mod Puts
pub mod Pairs
pub mod Masks
pub mod Seen
