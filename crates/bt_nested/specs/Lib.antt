pub mod Filled
pub mod Ids
pub mod Held
