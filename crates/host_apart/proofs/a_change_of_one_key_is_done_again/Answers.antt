use Rattle.host_apart.proofs.FirstLemmas.{leaves_first}
use Rattle.host_apart.proofs.a_change_of_one_key_is_done_again.Goals as goal

pub returns : goal.returns
returns c = leaves_first
