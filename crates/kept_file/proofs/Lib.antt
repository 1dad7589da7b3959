pub mod OpenedLemmas
pub mod KeptLemmas
pub mod FoundLemmas
