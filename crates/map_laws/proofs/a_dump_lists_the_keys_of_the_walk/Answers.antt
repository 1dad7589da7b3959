use Rattle.map_laws.proofs.Walked.{dumps_its_keys}
use Rattle.map_laws.proofs.a_dump_lists_the_keys_of_the_walk.Goals as goal

pub returns : goal.returns
returns c = dumps_its_keys
