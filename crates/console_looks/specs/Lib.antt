pub mod LookGrammar
pub mod Shown
pub mod Turned
pub mod LookText
pub mod TurnedText
pub mod Answered
