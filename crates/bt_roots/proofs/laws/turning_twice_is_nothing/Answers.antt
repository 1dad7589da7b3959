use Rattle.bt_roots.proofs.ExchangeLemmas.{turns_back}
use Rattle.bt_roots.proofs.laws.turning_twice_is_nothing.Goals as goal

pub returns : goal.returns
returns c = turns_back
