pub mod ScarceLemmas
