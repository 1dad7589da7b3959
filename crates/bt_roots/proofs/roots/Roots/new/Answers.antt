use Rattle.bt_roots.proofs.DeviceLemmas.{good-free}
use Rattle.bt_roots.proofs.roots.Roots.new.Goals as goal

pub invariant_of-result : goal.invariant_of-result
invariant_of-result c = good-free _ c.args.devices.items c.in_ok-devices.ensures c.requires
