use Rattle.std.proofs.Common.{sym, ◌∙◌}
use Rattle.std.proofs.lemmas.Option.{slice_get-get_or}
use Rattle.bt_verify.proofs.Members.{all_named}
use Rattle.bt_verify.proofs.Pairs.{nothing_named, none_more, one_more}
use Rattle.bt_verify.proofs.maps.named_maps.Goals as goal
use Rattle.bt_verify.proofs.maps.named_maps.Goals.{in-Some+in_ok-put-in-Some, in-None}

pub loop-slot-init : goal.loop-slot-init
loop-slot-init c = nothing_named c.args.slots.now c.args.list.now c.new-maps.result.items c.new-maps.ensures.items

pub loop-slot-preserved : goal.loop-slot-preserved
loop-slot-preserved c =
    elim c.match-map_of.branch [
      | in-Some+in_ok-put-in-Some w ↦ rw (w.maps-is, w.in_ok-put-in-Some.ensures)
          (one_more c.args.slots.now c.loop-slot.slot-index c.args.list.now c.loop-slot.maps.items _ w.in-Some.map c.loop-slot.invariant
          (slice_get-get_or c.args.slots.now c.loop-slot.slot-index _ c.loop-slot-test.true) (sym c.map_of.ensures ∙ w.in-Some.is))
      | in-None w ↦ rw w.maps-is
          (none_more c.args.slots.now c.loop-slot.slot-index c.args.list.now c.loop-slot.maps.items _ c.loop-slot.invariant
          (slice_get-get_or c.args.slots.now c.loop-slot.slot-index _ c.loop-slot-test.true) (sym c.map_of.ensures ∙ w.in-None.is))
    ]

pub returns : goal.returns
returns c = all_named c.args.slots.now c.loop-slot.slot-index c.args.list.now c.loop-slot.maps.items c.requires c.loop-slot-test.false c.loop-slot.invariant
