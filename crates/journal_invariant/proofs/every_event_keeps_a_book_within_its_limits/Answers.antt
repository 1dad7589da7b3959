use Rattle.journal_invariant.proofs.Limiting.{stays_within_limits}
use Rattle.journal_invariant.proofs.every_event_keeps_a_book_within_its_limits.Goals as goal

pub returns : goal.returns
returns c = stays_within_limits
