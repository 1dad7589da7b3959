use Rattle.journal_laws.proofs.Losing.{stays_forgotten}
use Rattle.journal_laws.proofs.a_forgotten_mark_stays_forgotten.Goals as goal

pub returns : goal.returns
returns c = stays_forgotten
