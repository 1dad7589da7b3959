pub mod LeadLemmas
pub mod AgainLemmas
pub mod SinceLemmas
pub mod NewestLemmas
pub mod MoveLemmas
pub mod NotedLemmas
pub mod RedoneLemmas
pub mod GrownLemmas
