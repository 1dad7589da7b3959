use Rattle.std.proofs.Common.{◌≡◌, ◌*◌, ◌≤◌, ◌++◌}
use Rattle.std.specs.FinMap as map
use Rattle.host_retirement.specs.Gathered.{links_read}
use Rattle.host_state.specs.Work.{CallsAtMost}
use Rattle.host_retirement.proofs.retire.add_first.Given as goal

abbrev pub invariant-loop-number : goal.invariant-loop-number
invariant-loop-number g l =
    (l.number ≤ l.count)
    × CallsAtMost (2 * l.number) l.initial.objects.work l.objects.work
    × (l.objects.by_id ≡ l.initial.objects.by_id)
    × (l.links.items ≡ l.initial.links.items ++ links_read l.id l.kind (map.get l.initial.objects.by_id l.id) l.number)
