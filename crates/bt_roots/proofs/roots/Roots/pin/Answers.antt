use Rattle.std.proofs.Common.{◌≡◌, None, Some, sym, ap, subst, ◌∙◌}
use Rattle.std.specs.FinMap as finite
use Rattle.bt_roots.specs.declared.back.RootBack.TheVariants.{Pin}
use Rattle.bt_roots.specs.Exchange.{put_at, exchanged}
use Rattle.bt_roots.specs.Slots.{pins_of, room_of, roots_view}
use Rattle.bt_roots.proofs.ExchangeLemmas.{keeps_slots, fits_path, room_kept, room_made, restores_pin, none_is}
use Rattle.bt_roots.proofs.roots.Roots.pin.Goals as goal

pub returns-clause-fits : goal.returns-clause-fits
returns-clause-fits c =
    fits_path c.add_pin.new.slots.entries c.self.inside.devices.items c.in_ok-copy.field-0 None
    (rw (c.in_ok-add_pin.ensures.room, c.in_ok-copy.ensures, c.in_ok-copy-2.ensures) (room_made (room_of c.self.inside.slots.entries) c.args.path.now))

pub returns-clause-keeps : goal.returns-clause-keeps
returns-clause-keeps c =
    keeps_slots c.args.self.now c.self.inside.slots.entries c.add_pin.new.slots.entries c.self.inside.devices.items c.self.view_is
    (λ q h. rw c.in_ok-add_pin.ensures.room (room_kept (room_of c.self.inside.slots.entries) c.in_ok-copy-2.field-0 q h))

pub returns-clause-restores : goal.returns-clause-restores
returns-clause-restores c =
    let slots = c.self.inside.slots.entries in
    let new = c.add_pin.new.slots.entries in
    let devices = c.self.inside.devices.items in
    let path = c.args.path.now in
    let put : pins_of new ≡ put_at (pins_of slots) path (Some c.args.target) = c.in_ok-add_pin.ensures.pins ∙ ap (λ p. put_at (pins_of slots) p (Some c.args.target)) c.in_ok-copy-2.ensures in
    let free : None ≡ finite.get (pins_of slots) path = none_is c.pinned_at.result (sym c.is_some.ensures ∙ c.if-is_some.false) ∙ c.pinned_at.ensures in
    subst (λ p. (exchanged (roots_view new devices) (Pin p None)).0 ≡ record c.args.self.now { room = (roots_view new devices).room }) (sym c.in_ok-copy.ensures)
    (restores_pin c.args.self.now slots new devices path (Some c.args.target) None c.self.view_is put free)
