pub mod Counted
pub mod Dealt
pub mod Rounds
