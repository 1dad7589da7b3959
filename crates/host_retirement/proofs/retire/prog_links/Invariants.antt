use Rattle.std.proofs.Common.{◌≡◌, ◌++◌}
use Rattle.std.specs.List.{flat_map}
use Rattle.host_retirement.specs.Gathered.{links_by_prog}
use Rattle.host_retirement.proofs.retire.prog_links.Given as goal

abbrev pub invariant-loop-id : goal.invariant-loop-id
invariant-loop-id l =
    l.links.items ++ flat_map (λ e. links_by_prog e.0 e.1) l.id-iterator
    ≡ flat_map (λ e. links_by_prog e.0 e.1) l.entries.progs.entries
