use Rattle.std.proofs.Common.{◌≡◌, take}
use Rattle.kept_event.specs.Maps.{maps_bytes, FitMaps}
use Rattle.kept_event.proofs.maps.maps_bytes.Given as goal

abbrev pub invariant-maps : goal.invariant-maps
invariant-maps l = record {
  bytes : l.bytes.items ≡ maps_bytes (take l.map-index l.maps);
  fit : FitMaps (take l.map-index l.maps);
}
