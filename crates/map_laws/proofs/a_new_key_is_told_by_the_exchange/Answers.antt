use Rattle.map_laws.proofs.Room.{tells_new}
use Rattle.map_laws.proofs.a_new_key_is_told_by_the_exchange.Goals as goal

pub returns : goal.returns
returns c = tells_new
