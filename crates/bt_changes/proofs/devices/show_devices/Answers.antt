use Rattle.std.proofs.Common.{List, length, ◌≤◌, sym, subst}
use Rattle.bt_roots.specs.declared.device.Device.{Device}
use Rattle.bt_changes.proofs.AskLemmas.{few_devices}
use Rattle.bt_changes.proofs.devices.show_devices.Goals as goal

pub show_all-requires : goal.show_all-requires
show_all-requires g = subst (λ (devices : List Device). length devices ≤ 16) (sym g.devices.ensures.value) (few_devices g.args.roots.now.devices g.devices.ensures.good)
