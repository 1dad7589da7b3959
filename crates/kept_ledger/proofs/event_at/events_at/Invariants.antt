use Rattle.std.proofs.Common.{◌≡◌, ◌+◌, List, length}
use Rattle.kept_ledger.specs.Ledger.{Entry, AreKept, shown_from}
use Rattle.kept_ledger.proofs.ReadRows.{IsRead, HasShown}
use Rattle.kept_ledger.proofs.event_at.events_at.Given as goal

abbrev pub invariant-loop-row : goal.invariant-loop-row
invariant-loop-row l = record {
  read : (es : List Entry) → AreKept es → l.rows ≡ shown_from 1 es → IsRead es l.events.items l.rest l.place;
  shown : HasShown l.rows l.rest l.events.items l.place;
  within : l.place + length l.rest ≡ 1 + length l.rows;
}

abbrev pub decreases-loop-row : goal.decreases-loop-row
decreases-loop-row l = length l.rest
