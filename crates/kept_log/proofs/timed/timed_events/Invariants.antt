use Rattle.std.proofs.Common.{List, length}
use Rattle.kept_ledger.specs.Ledger.{Entry}
use Rattle.kept_log.specs.Timed.{AreTimed}
use Rattle.kept_log.proofs.LastEvents.{IsReadTo}
use Rattle.kept_log.proofs.timed.timed_events.Given as goal

abbrev pub invariant-loop-row : goal.invariant-loop-row
invariant-loop-row l = (es : List Entry) → AreTimed l.rows es → IsReadTo es l.events.items l.rest

abbrev pub decreases-loop-row : goal.decreases-loop-row
decreases-loop-row l = length l.rest
