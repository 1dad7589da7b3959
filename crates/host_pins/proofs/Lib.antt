pub mod CreatedLemmas
pub mod CutLemmas
pub mod PresenceLemmas
pub mod LoadLemmas
pub mod PinLemmas
pub mod AttachLemmas
