use Rattle.std.proofs.Common.{◌++◌, ap₂, sym, ◌∙◌, flat_map, w32}
use Rattle.std.specs.Int.{to_le_bytes}
use Rattle.kept_event.proofs.MapsRead.{bytes_more, fit_more}
use Rattle.kept_event.proofs.maps.maps_bytes.Goals as goal

pub maps-preserved : goal.maps-preserved
maps-preserved c = record {
  bytes = c.in_ok-push_numbers.ensures ∙ ap₂ (λ front numbers. front ++ flat_map (to_le_bytes w32) numbers) c.maps.invariant.bytes c.numbers_of.ensures.numbers
      ∙ sym (bytes_more c.args.maps.now c.maps.map-index c.maps-test.true);
  fit = fit_more c.args.maps.now c.maps.map-index c.maps-test.true c.maps.invariant.fit c.numbers_of.ensures.fits;
}
