pub mod IdsLemmas
pub mod BoxesLemmas
pub mod MadeLemmas
pub mod RebaseLemmas
mod MarkLemmas
pub mod AdvanceLemmas
pub mod FoldLemmas
pub mod OpenLemmas
pub mod AgeLemmas
pub use Rattle.journal_timeline.proofs.CostLemmas
pub use Rattle.journal_timeline.proofs.SerialLemmas
pub mod CutLemmas
pub mod ForthLemmas
