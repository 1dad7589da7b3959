use Rattle.journal_laws.proofs.Alone.{returns_what_was_taken_out}
use Rattle.journal_laws.proofs.undo_to_a_mark_brings_back_what_was_taken_out.Goals as goal

pub returns : goal.returns
returns c = returns_what_was_taken_out
