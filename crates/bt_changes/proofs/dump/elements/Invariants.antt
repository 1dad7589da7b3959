use Rattle.std.proofs.Common.{◌≡◌, ◌≤◌, ◌*◌}
use Rattle.std.specs.List.{filter_map, range_with_len}
use Rattle.std.specs.FinMap as map
use Rattle.bt_changes.proofs.ShownLemmas.{shown_at}
use Rattle.host_state.specs.Work.{CallsAtMost}
use Rattle.bt_changes.proofs.dump.elements.Given as goal

abbrev pub invariant-loop-number : goal.invariant-loop-number
invariant-loop-number g l =
    (l.number ≤ l.count)
    × (l.list.items ≡ filter_map (shown_at (map.get l.initial.objects.by_id l.id)) (range_with_len 0 l.number))
    × (l.objects.by_id ≡ l.initial.objects.by_id)
    × CallsAtMost (2 * l.number) l.initial.objects.work l.objects.work
