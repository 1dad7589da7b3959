pub mod Prefixes
pub mod Held
pub mod Stays
