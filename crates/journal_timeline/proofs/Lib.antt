pub mod RefusedLemmas
pub mod StageLemmas
pub mod StageAloneLemmas
pub mod BeginLemmas
pub mod AgainLemmas
pub mod StageCostLemmas
mod OpenLemmas
pub use Rattle.journal_moments.proofs.TakenOutLemmas
pub use Rattle.journal_moments.proofs.AscendLemmas
pub use Rattle.journal_moments.proofs.RetiredByLemmas
pub use Rattle.journal_moments.proofs.CostLemmas
pub use Rattle.journal_moments.proofs.SerialLemmas
