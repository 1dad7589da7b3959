pub mod WindowLemmas
pub mod RingLemmas
pub mod ItemsLemmas
pub mod HeldLemmas
