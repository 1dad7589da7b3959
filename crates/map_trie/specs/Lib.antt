pub mod Ways
pub mod Trie
