pub mod Served
pub mod Asked
pub mod Gates
pub mod Worked
pub mod Two
