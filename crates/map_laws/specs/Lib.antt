pub mod Place
pub mod Standing
pub mod Walk
pub mod Laws
pub mod Bounded
