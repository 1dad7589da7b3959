pub mod Looked
pub mod Turnings
