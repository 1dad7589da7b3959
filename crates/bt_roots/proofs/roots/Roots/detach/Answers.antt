use Rattle.std.proofs.Common.{None, ◌<◌, length, ap, arith}
use Rattle.bt_roots.proofs.DeviceLemmas.{good-attach_at}
use Rattle.bt_roots.proofs.ExchangeLemmas.{keeps_devices, fits_position, restores_prog}
use Rattle.bt_roots.proofs.roots.Roots.detach.Goals as goal

pub invariant_of-self : goal.invariant_of-self
invariant_of-self c = good-attach_at c.self.inside.devices.items _ _ _ c.exchange_prog-before.ensures.after c.self.invariant

pub returns-clause-fits : goal.returns-clause-fits
returns-clause-fits c =
    let there : c.in-Some.position < length c.exchange_prog-before.new.devices.items =
    omega (arith, c.in-Some.ensures.within, ap length c.deref.ensures.value, c.exchange_prog-before.ensures.len) in
    fits_position c.self.inside.slots.entries c.exchange_prog-before.new.devices.items c.in-Some.position c.exchange_prog-before.result there

pub returns-clause-keeps : goal.returns-clause-keeps
returns-clause-keeps c = keeps_devices c.args.self.now c.self.inside.slots.entries c.self.inside.devices.items c.exchange_prog-before.new.devices.items c.self.view_is c.exchange_prog-before.ensures.len

pub returns-clause-restores : goal.returns-clause-restores
returns-clause-restores c =
    restores_prog c.args.self.now c.self.inside.slots.entries c.self.inside.devices.items c.exchange_prog-before.new.devices.items c.in-Some.position (None) c.exchange_prog-before.result
    c.self.view_is c.exchange_prog-before.ensures.after c.exchange_prog-before.ensures.before
