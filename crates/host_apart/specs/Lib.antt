pub mod Spots
pub mod Refilled
pub mod Laws
pub mod Alike
