pub mod Faults
pub mod Ends
pub mod Book
pub mod Carried
pub mod Live
pub mod LiveTalk
