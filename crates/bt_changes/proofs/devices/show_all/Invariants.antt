use Rattle.std.proofs.Common.{◌≡◌, ◌++◌, ◌+◌, drop}
use Rattle.host_state.specs.Ask.{device_rows}
use Rattle.bt_changes.proofs.devices.show_all.Given as goal

abbrev pub invariant-loop-position : goal.invariant-loop-position
invariant-loop-position l = l.rows.items ++ device_rows (l.position + 1) (drop l.position l.devices) ≡ device_rows 1 l.devices
