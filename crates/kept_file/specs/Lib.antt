pub mod Keeps
pub mod Faults
