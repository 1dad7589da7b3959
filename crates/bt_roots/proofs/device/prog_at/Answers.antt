use Rattle.std.proofs.Common.{sym, ap, ◌∙◌}
use Rattle.bt_roots.proofs.DeviceLemmas.{prog_at-there}
use Rattle.bt_roots.proofs.device.prog_at.Goals as goal

pub returns : goal.returns
returns c = ap (λ device. device.prog) c.index-devices-position.is ∙ sym (prog_at-there c.args.devices.now c.args.position c.index-devices-position.result c.requires)
