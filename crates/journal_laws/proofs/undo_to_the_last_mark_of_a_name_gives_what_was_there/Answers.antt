use Rattle.journal_laws.proofs.Returning.{returns_to_last_mark}
use Rattle.journal_laws.proofs.undo_to_the_last_mark_of_a_name_gives_what_was_there.Goals as goal

pub returns : goal.returns
returns c = returns_to_last_mark
