pub mod MoveLemmas
pub mod BlockLemmas
pub mod OrderLemmas
