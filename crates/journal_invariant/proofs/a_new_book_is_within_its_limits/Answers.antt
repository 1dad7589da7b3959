use Rattle.journal_invariant.proofs.Limiting.{begins_within_limits}
use Rattle.journal_invariant.proofs.a_new_book_is_within_its_limits.Goals as goal

pub returns : goal.returns
returns c = begins_within_limits
