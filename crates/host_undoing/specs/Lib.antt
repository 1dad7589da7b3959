pub mod Prelude
pub mod Exchange
pub mod Answers
pub mod Work
