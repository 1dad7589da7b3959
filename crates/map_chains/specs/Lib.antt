pub mod Chains
pub mod Buckets
