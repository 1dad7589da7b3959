mod Loading
mod Making
mod Lines
mod Telling
mod Stepping
pub mod Knowing
