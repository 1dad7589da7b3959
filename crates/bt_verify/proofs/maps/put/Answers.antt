use Rattle.std.proofs.Common.{◌<◌, ◌≤◌, length, refl, sym, ◌∙◌, arith, rules}
use Rattle.std.proofs.lemmas.Option.{slice_get_read, slice_get_within}
use Rattle.bt_verify.proofs.Pairs.{set_at, insert_at, is_above}
use Rattle.bt_verify.proofs.maps.put.Goals as goal
use Rattle.bt_verify.proofs.maps.put.Goals.{else-place-len-via-then-place-len+else-index-map, else-place-len-via-else-place-len}

pub returns-then-index-map : goal.returns-then-index-map
returns-then-index-map c =
    let within : c.place_of-place.result < length c.args.maps.now.items = search rules in
    set_at c.args.maps.now.items c.place_of-place.result c.args.map c.index.result.now
    (record { each = λ k x lt e. c.place_of-place.ensures.below k x lt (rw c.deref.ensures.value e) })
    (slice_get_read c.args.maps.now.items (length c.args.maps.now.items) c.place_of-place.result c.index.result.now refl within c.index.ensures)
    (sym c.if-index-map.true)

pub returns-in_ok-insert : goal.returns-in_ok-insert
returns-in_ok-insert c =
    c.in_ok-insert.ensures.items
    ∙ insert_at c.args.maps.now.items c.place_of-place.result c.args.map
    (record { each = λ k x lt e. c.place_of-place.ensures.below k x lt (rw c.deref.ensures.value e) })
    (rw c.deref.ensures.value at c.place_of-place.ensures.within)
    (λ x e. elim c.else-place-len.branch [
      | else-place-len-via-then-place-len+else-index-map w ↦
          (let within : c.place_of-place.result < length c.args.maps.now.items = search rules in
          is_above c.args.maps.now.items c.place_of-place.result c.args.map x w.index.result.now (c.place_of-place.ensures.stops x (rw c.deref.ensures.value e)) e
          (slice_get_read c.args.maps.now.items (length c.args.maps.now.items) c.place_of-place.result w.index.result.now refl within w.index.ensures) w.if-index-map.false)
      | else-place-len-via-else-place-len w ↦
          (let outside : length c.args.maps.now.items ≤ c.place_of-place.result = search rules in
          absurd (omega (arith, outside, slice_get_within c.args.maps.now.items c.place_of-place.result x e)))
    ])
