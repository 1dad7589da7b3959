pub mod TakesOut
pub mod Calls
pub mod Events
pub use Rattle.bt_journal.specs.Recording
pub use Rattle.bt_journal.specs.BookView
