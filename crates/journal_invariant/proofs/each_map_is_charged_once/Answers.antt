use Rattle.journal_invariant.proofs.Charging.{charges_once}
use Rattle.journal_invariant.proofs.each_map_is_charged_once.Goals as goal

pub returns : goal.returns
returns c = charges_once
