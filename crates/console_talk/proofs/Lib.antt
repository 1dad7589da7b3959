pub mod Spoken
pub mod Anew
