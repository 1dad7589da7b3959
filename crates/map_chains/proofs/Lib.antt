pub mod ChainLemmas
pub mod BucketLemmas
pub mod RangeLemmas
