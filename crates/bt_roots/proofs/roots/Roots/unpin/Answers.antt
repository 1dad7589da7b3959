use Rattle.std.proofs.Common.{◌≡◌, None, sym, subst, arith}
use Rattle.std.proofs.lemmas.Grind.{common_steps}
use Rattle.bt_roots.proofs.SlotLemmas.{room_of_pin}
use Rattle.bt_roots.specs.declared.back.RootBack.TheVariants.{Pin}
use Rattle.bt_roots.specs.Exchange.{exchanged}
use Rattle.bt_roots.specs.Slots.{roots_view}
use Rattle.bt_roots.proofs.ExchangeLemmas.{fits_path, restores_pin}
use Rattle.bt_roots.proofs.roots.Roots.unpin.Goals as goal

pub exchange_pin-target-requires : goal.exchange_pin-target-requires
exchange_pin-target-requires c = room_of_pin c.self.inside.slots.entries c.args.path.now (grind (arith, common_steps))

pub returns-clause-fits : goal.returns-clause-fits
returns-clause-fits c =
    fits_path c.exchange_pin-target.new.slots.entries c.self.inside.devices.items c.in_ok-back.back c.exchange_pin-target.result
    (rw (c.exchange_pin-target.ensures.room, c.in_ok-back.ensures) (room_of_pin c.self.inside.slots.entries c.args.path.now (grind (arith, common_steps))))

pub returns-clause-restores : goal.returns-clause-restores
returns-clause-restores c =
    let slots = c.self.inside.slots.entries in
    let new = c.exchange_pin-target.new.slots.entries in
    let devices = c.self.inside.devices.items in
    let before = c.exchange_pin-target.result in
    subst (λ p. (exchanged (roots_view new devices) (Pin p before)).0 ≡ record c.args.self.now { room = (roots_view new devices).room }) (sym c.in_ok-back.ensures)
    (restores_pin c.args.self.now slots new devices c.args.path.now None before c.self.view_is c.exchange_pin-target.ensures.pins c.exchange_pin-target.ensures.before)
