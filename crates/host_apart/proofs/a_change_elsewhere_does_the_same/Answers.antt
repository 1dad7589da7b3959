use Rattle.host_apart.proofs.ActsElsewhere.{acts_elsewhere}
use Rattle.host_apart.proofs.a_change_elsewhere_does_the_same.Goals as goal

pub returns : goal.returns
returns c = acts_elsewhere
