use Rattle.std.proofs.Common.{◌≡◌, ◌-◌, drop, length}
use Rattle.bt_console.specs.Frames.{place_of}
use Rattle.bt_console.proofs.Opened.{behind}
use Rattle.bt_console.proofs.runs.find_in.Given as goal

abbrev pub invariant-runs : goal.invariant-runs
invariant-runs l = place_of l.number l.runs ≡ behind l.place (place_of l.number (drop l.place l.runs))

abbrev pub decreases-runs : goal.decreases-runs
decreases-runs l = length l.runs - l.place
