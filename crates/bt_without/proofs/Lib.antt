pub mod AloneLemmas
pub mod TakesOutLemmas
pub mod CallLemmas
pub mod EventLemmas
