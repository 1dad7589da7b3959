pub mod Ran
pub mod Framed
pub mod Lines
