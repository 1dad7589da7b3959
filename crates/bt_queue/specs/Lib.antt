pub mod Window
pub mod Held
