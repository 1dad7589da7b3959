use Rattle.std.proofs.Common.{◌≡◌, List, length}
use Rattle.kept_event.specs.Maps.{maps_bytes, FitMaps}
use Rattle.kept_event.proofs.MapsRead.{Map, IsSplit}
use Rattle.kept_event.proofs.maps.maps_in.Given as goal

abbrev pub invariant-loop-rest : goal.invariant-loop-rest
invariant-loop-rest l = (maps : List Map) → FitMaps maps → l.bytes ≡ maps_bytes maps → IsSplit maps l.maps.items l.rest

abbrev pub decreases-loop-rest : goal.decreases-loop-rest
decreases-loop-rest l = length l.rest
