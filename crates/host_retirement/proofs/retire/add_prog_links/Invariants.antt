use Rattle.std.proofs.Common.{◌≡◌, ◌≤◌, ◌++◌, length, drop}
use Rattle.host_retirement.proofs.GatherLemmas.{uses_of}
use Rattle.host_retirement.proofs.retire.add_prog_links.Given as goal

abbrev pub invariant-loop-map : goal.invariant-loop-map
invariant-loop-map l =
    (l.map-index ≤ length l.map-items)
    × (l.links.items ++ uses_of l.id (drop l.map-index l.map-items) ≡ l.initial.links.items ++ uses_of l.id l.map-items)
