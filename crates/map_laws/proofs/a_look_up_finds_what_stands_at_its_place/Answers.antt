use Rattle.map_laws.proofs.Found.{looks_up}
use Rattle.map_laws.proofs.a_look_up_finds_what_stands_at_its_place.Goals as goal

pub returns : goal.returns
returns c = looks_up
