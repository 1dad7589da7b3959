pub mod Blocks
pub mod Order
