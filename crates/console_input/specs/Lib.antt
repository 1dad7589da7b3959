pub mod Book
pub mod Live
pub mod Named
pub mod Orders
pub mod Options
