use Rattle.host_state.specs.Hosts.{entries_in}
use Rattle.std.proofs.Common.{◌≡◌, ◌++◌}
use Rattle.std.specs.List.{filter_map}
use Rattle.std.specs.Map.{keys_of}
use Rattle.host_retirement.proofs.RetiredLemmas.{retires_map}
use Rattle.host_retirement.proofs.retire.retired_maps.Given as goal

abbrev pub invariant-loop-id : goal.invariant-loop-id
invariant-loop-id l =
    l.list.items ++ filter_map (retires_map (entries_in l.entries) l.live) (keys_of l.id-iterator)
    ≡ filter_map (retires_map (entries_in l.entries) l.live) (keys_of l.entries.maps.entries)
