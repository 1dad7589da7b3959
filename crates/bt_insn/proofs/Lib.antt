pub mod Again
pub mod Slots
pub mod Forms
pub mod Front
pub mod Opcodes
pub mod Readings
pub mod Faults
