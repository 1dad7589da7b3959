use Rattle.journal_laws.proofs.Returning.{returns_to_mark}
use Rattle.journal_laws.proofs.undo_to_a_mark_gives_what_was_there.Goals as goal

pub returns : goal.returns
returns c = returns_to_mark
