use Rattle.journal_invariant.proofs.Rising.{serials_rise}
use Rattle.journal_invariant.proofs.serials_never_come_back.Goals as goal

pub returns : goal.returns
returns c = serials_rise
