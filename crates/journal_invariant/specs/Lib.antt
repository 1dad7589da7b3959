pub mod Laws
pub mod Live
