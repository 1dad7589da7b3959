use Rattle.std.proofs.Common.{◌≡◌, ◌++◌}
use Rattle.std.specs.List.{flat_map, sum_by}
use Rattle.host_retirement.specs.Gathered.{links_by, calls_by}
use Rattle.host_state.proofs.CallLemmas.{CallsLeft}
use Rattle.host_retirement.proofs.retire.map_links.Given as goal

abbrev pub invariant-loop-id : goal.invariant-loop-id
invariant-loop-id g l =
    CallsLeft (sum_by (λ e. calls_by l.initial.objects.by_id e.0 e.1) l.entries.maps.entries) (sum_by (λ e. calls_by l.initial.objects.by_id e.0 e.1) l.id-iterator) l.initial.objects.work l.objects.work
    × (l.objects.by_id ≡ l.initial.objects.by_id)
    × (
    l.links.items ++ flat_map (λ e. links_by l.initial.objects.by_id e.0 e.1) l.id-iterator
    ≡ flat_map (λ e. links_by l.initial.objects.by_id e.0 e.1) l.entries.maps.entries
    )
