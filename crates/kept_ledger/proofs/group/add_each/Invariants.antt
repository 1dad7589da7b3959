use Rattle.std.proofs.Common.{List, ◌++◌, take}
use Rattle.sqlite.specs.State.{HasCleanDisk, Survives, KeepsCommit}
use Rattle.sqlite.specs.Held.{state}
use Rattle.kept_ledger.specs.TermsView.{PlainTerms}
use Rattle.kept_ledger.specs.Ledger.{Entry, IsAdding, stamped}
use Rattle.kept_ledger.proofs.group.add_each.Given as goal

abbrev pub invariant-events : goal.invariant-events
invariant-events g l =
    let old = state g.S.Store l.fn.conn in
    let now = state g.S.Store l.conn in
    Survives old now (λ _. (t : PlainTerms) (es : List Entry) → IsAdding t es old → ⊥)
    × (HasCleanDisk now → (t : PlainTerms) (es : List Entry) → IsAdding t es old → IsAdding t (es ++ stamped l.time (take l.event-index l.events)) now)
    × (HasCleanDisk now → (t : PlainTerms) (es : List Entry) → IsAdding t es old → KeepsCommit old now)
