use Rattle.bt_verify.proofs.Pairs.{AreNamedBelow}
use Rattle.bt_verify.proofs.maps.named_maps.Given as goal

abbrev pub invariant-loop-slot : goal.invariant-loop-slot
invariant-loop-slot l = AreNamedBelow l.slots l.slot-index l.list l.maps.items
