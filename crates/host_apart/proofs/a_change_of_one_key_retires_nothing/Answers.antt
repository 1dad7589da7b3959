use Rattle.host_apart.proofs.OperatedLemmas.{retires_nothing}
use Rattle.host_apart.proofs.a_change_of_one_key_retires_nothing.Goals as goal

pub returns : goal.returns
returns c = retires_nothing
