pub mod Answers
pub mod Mishaps
pub mod ShortAnswers
pub mod Told
