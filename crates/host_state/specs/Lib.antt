pub mod Prelude
pub mod State
pub mod Settled
pub mod Act
pub mod Ask
pub mod World
pub mod Hosts
pub mod Work
