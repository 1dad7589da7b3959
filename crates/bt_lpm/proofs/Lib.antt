pub mod MaskLemmas
pub mod PrefixLemmas
pub mod LongestLemmas
pub mod TrieLemmas
pub mod KeyLemmas
