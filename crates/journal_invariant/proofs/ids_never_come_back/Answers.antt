use Rattle.journal_invariant.proofs.Rising.{ids_rise}
use Rattle.journal_invariant.proofs.ids_never_come_back.Goals as goal

pub returns : goal.returns
returns c = ids_rise
