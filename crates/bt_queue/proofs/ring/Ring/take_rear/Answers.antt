use Rattle.std.proofs.Common.{ap, sym, List, Option, ℕ}
use Rattle.bt_queue.proofs.ItemsLemmas.{newest_of_ring, rest_of_ring}
use Rattle.bt_queue.proofs.ring.Ring.take_rear.Goals as goal

pub returns-then-take-clause-taken : goal.returns-then-take-clause-taken
returns-then-take-clause-taken c =
    rw c.if-take.true
    (sym (ap (λ (r : Option (List ℕ) × List (List ℕ)). r.0) (newest_of_ring _ _ _ c.pop_rear.ensures)))

pub returns-then-take-clause-left : goal.returns-then-take-clause-left
returns-then-take-clause-left c = rw c.if-take.true (rest_of_ring _ _ _ c.pop_rear.ensures)
