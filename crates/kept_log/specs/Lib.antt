pub mod LogGrammar
pub mod Timed
pub mod Logged
pub mod LogText
pub mod Telling
