pub mod Events
pub mod Codes
pub mod Histories
pub mod Seats
pub mod Promises
pub mod Visits
pub use Rattle.bt_without.specs.declared.events.Answer
