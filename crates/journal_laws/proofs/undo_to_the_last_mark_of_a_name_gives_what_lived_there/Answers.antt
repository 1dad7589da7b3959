use Rattle.journal_laws.proofs.Living.{returns_what_lived_at_last}
use Rattle.journal_laws.proofs.undo_to_the_last_mark_of_a_name_gives_what_lived_there.Goals as goal

pub returns : goal.returns
returns c = returns_what_lived_at_last
