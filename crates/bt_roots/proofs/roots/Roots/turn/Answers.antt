use Rattle.std.proofs.Common.{◌<◌, length, arith}
use Rattle.bt_roots.proofs.DeviceLemmas.{good-attach_at}
use Rattle.bt_roots.proofs.ExchangeLemmas.{keeps_devices, fits_position, position_fits}
use Rattle.bt_roots.proofs.roots.Roots.turn.Goals as goal

pub invariant_of-self-in-Attachment : goal.invariant_of-self-in-Attachment
invariant_of-self-in-Attachment c = good-attach_at c.self.inside.devices.items _ _ _ c.exchange_prog.ensures.after c.self.invariant

pub returns-in-Attachment-clause-fits : goal.returns-in-Attachment-clause-fits
returns-in-Attachment-clause-fits c =
    let there : c.in-Attachment.position < length c.exchange_prog.new.devices.items =
    omega (
      arith,
      position_fits c.args.self.now c.self.inside.slots.entries c.self.inside.devices.items c.in-Attachment.position c.in-Attachment.prog c.self.view_is (rw c.in-Attachment.is at c.requires),
      c.exchange_prog.ensures.len,
    ) in
    fits_position c.self.inside.slots.entries c.exchange_prog.new.devices.items c.in-Attachment.position c.exchange_prog.result there

pub returns-in-Attachment-clause-keeps : goal.returns-in-Attachment-clause-keeps
returns-in-Attachment-clause-keeps c =
    keeps_devices c.args.self.now c.self.inside.slots.entries c.self.inside.devices.items c.exchange_prog.new.devices.items c.self.view_is c.exchange_prog.ensures.len
