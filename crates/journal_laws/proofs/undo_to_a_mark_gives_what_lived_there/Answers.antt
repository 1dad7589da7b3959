use Rattle.journal_laws.proofs.Living.{returns_what_lived}
use Rattle.journal_laws.proofs.undo_to_a_mark_gives_what_lived_there.Goals as goal

pub returns : goal.returns
returns c = returns_what_lived
