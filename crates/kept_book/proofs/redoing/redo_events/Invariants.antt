use Rattle.std.proofs.Common.{◌≡◌, length}
use Rattle.std.specs.Vec.Iter.{into_iter_items, into_iter_len}
use Rattle.kept_book.proofs.RedoneLemmas.{IsLed}
use Rattle.kept_book.proofs.redoing.redo_events.Given as goal

abbrev pub invariant-events : goal.invariant-events
invariant-events g l = record {
  led : IsLed l.fn.book.plain l.fn.events.items (into_iter_items l.rest) l.book.plain;
  count : l.count ≡ length l.fn.events.items;
}

abbrev pub decreases-events : goal.decreases-events
decreases-events g l = into_iter_len l.rest
