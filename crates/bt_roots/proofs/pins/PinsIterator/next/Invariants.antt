use Rattle.std.proofs.Common.{◌≡◌, length}
use Rattle.bt_roots.specs.PinsLeft.{pins_left}
use Rattle.bt_roots.proofs.pins.PinsIterator.next.Given as goal

abbrev pub invariant-passing : goal.invariant-passing
invariant-passing l = pins_left l.initial.self ≡ pins_left l.self

abbrev pub decreases-passing : goal.decreases-passing
decreases-passing l = length l.self.slots
