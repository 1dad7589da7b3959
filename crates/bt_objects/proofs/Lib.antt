pub mod BoxLemmas
pub mod KeptLemmas
