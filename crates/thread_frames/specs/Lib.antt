pub mod Deal
pub mod Faults
pub mod Takes
