pub mod Words
pub mod Maps
pub mod Bounded
pub mod Row
pub mod Reading
