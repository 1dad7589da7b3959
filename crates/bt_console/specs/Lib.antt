pub mod Frames
pub mod Commands
pub mod Stock
pub mod BlankOf
pub mod Lines
pub mod Supply
pub mod Laws
pub use Rattle.bt_without.specs.BookView
