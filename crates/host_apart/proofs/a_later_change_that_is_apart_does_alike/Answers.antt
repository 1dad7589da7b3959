use Rattle.host_apart.proofs.AlikeLemmas.{does_alike}
use Rattle.host_apart.proofs.a_later_change_that_is_apart_does_alike.Goals as goal

pub returns : goal.returns
returns c = does_alike
