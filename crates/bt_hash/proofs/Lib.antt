pub mod EmptyLemmas
pub mod StepLemmas
pub mod KeptLemmas
pub mod AddressLemmas
