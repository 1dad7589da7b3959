mod Deals
pub mod Order
