use Rattle.host_apart.proofs.PartsElsewhere.{joins_elsewhere}
use Rattle.host_apart.proofs.a_turning_elsewhere_joins_the_same.Goals as goal

pub returns : goal.returns
returns c = joins_elsewhere
