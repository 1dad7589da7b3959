use Rattle.map_laws.proofs.Walked.{walks_its_keys}
use Rattle.map_laws.proofs.a_walk_goes_over_the_keys.Goals as goal

pub returns : goal.returns
returns c = walks_its_keys
