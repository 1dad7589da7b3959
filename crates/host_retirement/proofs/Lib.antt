pub mod CutLemmas
pub mod EntryLemmas
pub mod ListedLemmas
pub mod IdLemmas
pub mod GatherLemmas
pub mod RetiredLemmas
pub mod WalkLemmas
