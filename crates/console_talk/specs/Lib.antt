pub mod Talk
pub mod Anew
