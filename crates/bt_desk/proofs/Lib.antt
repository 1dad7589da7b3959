pub mod Runs
mod Asked
pub mod Sitting
pub mod Visiting
mod Promised
