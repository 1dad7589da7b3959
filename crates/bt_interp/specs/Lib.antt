pub mod Runs
pub mod Ends
pub mod Reached
pub mod Safety
pub mod Known
