pub mod FilledLemmas
pub mod SlotsLemmas
pub mod IdsLemmas
pub mod HashLemmas
