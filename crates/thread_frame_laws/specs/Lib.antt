pub mod Asks
pub mod LetIn
pub mod Stepped
