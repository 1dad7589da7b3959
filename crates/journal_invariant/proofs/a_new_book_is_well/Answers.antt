use Rattle.journal_invariant.proofs.Staying.{begins_well}
use Rattle.journal_invariant.proofs.a_new_book_is_well.Goals as goal

pub returns : goal.returns
returns c = begins_well
