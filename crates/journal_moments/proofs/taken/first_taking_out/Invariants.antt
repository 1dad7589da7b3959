use Rattle.std.proofs.Common.{◌≡◌, drop}
use Rattle.journal_moments.specs.Taken.{first_taken_up_to}
use Rattle.journal_moments.proofs.taken.first_taking_out.Given as goal

abbrev pub invariant-loop-next : goal.invariant-loop-next
invariant-loop-next l = record {
  left : first_taken_up_to l.last (drop l.next l.moments.items) ≡ first_taken_up_to l.last (drop l.from l.moments.items);
}
