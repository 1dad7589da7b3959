use Rattle.kept_event.proofs.CodeRead.{AscendBelow}
use Rattle.kept_event.proofs.maps.ascend.Given as goal

abbrev pub invariant-places : goal.invariant-places
invariant-places l = AscendBelow l.place l.maps
