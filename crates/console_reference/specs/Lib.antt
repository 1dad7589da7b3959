pub mod References
pub mod Programs
