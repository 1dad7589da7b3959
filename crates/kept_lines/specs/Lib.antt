pub mod Noting
pub mod Kept
pub mod Begun
pub mod RangeGrammar
pub mod Chosen
pub use Rattle.console_script.specs.BookView
pub use Rattle.console_script.specs.NoBox
pub use Rattle.console_script.specs.Supplied
