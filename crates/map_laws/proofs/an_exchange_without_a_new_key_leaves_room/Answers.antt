use Rattle.map_laws.proofs.Room.{leaves_room}
use Rattle.map_laws.proofs.an_exchange_without_a_new_key_leaves_room.Goals as goal

pub returns : goal.returns
returns c = leaves_room
