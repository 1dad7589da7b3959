pub mod WorkLemmas
pub mod OperationLemmas
pub mod OperatedLemmas
pub mod DoneLemmas
pub mod FreezeLemmas
pub mod OperationOf
pub mod PutLemmas
pub mod LinkLemmas
