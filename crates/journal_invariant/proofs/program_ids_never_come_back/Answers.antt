use Rattle.journal_invariant.proofs.Rising.{prog_ids_rise}
use Rattle.journal_invariant.proofs.program_ids_never_come_back.Goals as goal

pub returns : goal.returns
returns c = prog_ids_rise
