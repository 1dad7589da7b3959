pub mod Cut
pub mod Gathered
