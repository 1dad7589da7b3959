pub mod AskLemmas
pub mod ShownLemmas
pub mod PlacedLemmas
pub mod HeldLemmas
pub mod NamedLemmas
