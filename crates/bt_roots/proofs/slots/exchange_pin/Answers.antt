use Rattle.std.proofs.Common.{refl, sym, ap, subst, ◌∙◌, IsSome}
use Rattle.bt_roots.proofs.SlotLemmas.{get-pins_of, held, pins_put, no_room}
use Rattle.bt_roots.specs.Exchange.{put_at}
use Rattle.bt_roots.specs.Slots.{pins_of}
use Rattle.bt_roots.proofs.slots.exchange_pin.Goals as goal

pub returns-in-Some-clause-before : goal.returns-in-Some-clause-before
returns-in-Some-clause-before c = c.replace.ensures.value ∙ ap held c.in-Some.ensures.value ∙ sym (get-pins_of c.args.slots.now.entries c.args.path.now)

pub returns-in-Some-clause-pins : goal.returns-in-Some-clause-pins
returns-in-Some-clause-pins c =
    let there = subst IsSome c.in-Some.ensures.value refl in
    let puts = ((c.get_mut.follows.holds c.replace.new.dest).3 there).0 in
    pins_put c.args.slots.now.entries _ c.args.path.now c.replace.new.dest puts
    ∙ ap (put_at (pins_of c.args.slots.now.entries) c.args.path.now) c.replace.ensures.after

pub returns-in-None-clause-before : goal.returns-in-None-clause-before
returns-in-None-clause-before c = ap held c.in-None.ensures.value ∙ sym (get-pins_of c.args.slots.now.entries c.args.path.now)

pub returns-in-None-clause-pins : goal.returns-in-None-clause-pins
returns-in-None-clause-pins c = absurd (no_room c.args.slots.now.entries c.args.path.now (sym c.in-None.ensures.value) c.requires)
