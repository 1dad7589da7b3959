use Rattle.std.proofs.Common.{◌≡◌, ◌++◌}
use Rattle.std.specs.List.{flat_map}
use Rattle.bt_changes.proofs.ShownLemmas.{rows_at}
use Rattle.bt_changes.proofs.question.show_all.Given as goal

abbrev pub invariant-loop-id : goal.invariant-loop-id
invariant-loop-id g l =
    l.rows.items ++ flat_map (λ e. rows_at l.objects.by_id e.0 e.1) l.id-iterator
    ≡ flat_map (λ e. rows_at l.objects.by_id e.0 e.1) l.entries.maps.entries
