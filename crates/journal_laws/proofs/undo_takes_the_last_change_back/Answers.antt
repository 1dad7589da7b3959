use Rattle.journal_laws.proofs.Taking.{takes_back}
use Rattle.journal_laws.proofs.undo_takes_the_last_change_back.Goals as goal

pub returns : goal.returns
returns c = takes_back
