use Rattle.std.proofs.Common.{◌≡◌, drop}
use Rattle.bt_verify.specs.Maps.{find_map}
use Rattle.bt_verify.proofs.lookup.find_in_turn.Given as goal

abbrev pub invariant-loop-map : goal.invariant-loop-map
invariant-loop-map l = find_map l.maps l.id ≡ find_map (drop l.map-index l.maps) l.id
