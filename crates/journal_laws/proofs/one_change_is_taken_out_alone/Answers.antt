use Rattle.journal_laws.proofs.Alone.{takes_one_out_after}
use Rattle.journal_laws.proofs.one_change_is_taken_out_alone.Goals as goal

pub returns : goal.returns
returns c = takes_one_out_after
