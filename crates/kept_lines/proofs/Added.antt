-- Events that were added at one time.
use Rattle.std.proofs.Common.{◌≡◌, ◌⊎◌, inl, inr, ℕ, List, [], ◌++◌, Option, sym, ap, subst, ◌∙◌, append_assoc, append-nil}
use Rattle.std.proofs.lemmas.List.{map-append}
use Rattle.sqlite.specs.State.{State, HasCleanDisk}
use Rattle.kept_event.specs.declared.event.KeptEvent.{KeptEvent}
use Rattle.kept_ledger.specs.TermsView.{PlainTerms}
use Rattle.kept_ledger.specs.Ledger.{Entry, IsLedgerOf, stamped}
use Rattle.kept_lines.specs.Kept.{HasMore, AddsAt, IsFlushed, IsHeld}
use Rattle.kept_lines.specs.Begun.{WasReady, HasEntries, AddsToBook}

pub added_none : (time : ℕ) (s : State) → AddsAt time s s
added_none time s clean t es was = ([], subst (λ xs. IsLedgerOf t xs s) (sym (append-nil es)) was)

pub added_these : (time : ℕ) (old new : State) (events : List KeptEvent) → (HasCleanDisk new → (t : PlainTerms) (es : List Entry) → IsLedgerOf t es old → IsLedgerOf t (es ++ stamped time events) new) → AddsAt time old new
added_these time old new events adds clean t es was = (events, adds clean t es was)

stamped-append : (time : ℕ) (xs ys : List KeptEvent) → stamped time (xs ++ ys) ≡ stamped time xs ++ stamped time ys
stamped-append time xs ys = map-append _ xs ys

added_more : (time : ℕ) (t : PlainTerms) (es : List Entry) (s : State) (events : List KeptEvent) → HasMore time t (es ++ stamped time events) s → HasMore time t es s
added_more time t es s events (more, is) = (
  events ++ more,
  subst (λ xs. IsLedgerOf t xs s) (append_assoc es (stamped time events) (stamped time more) ∙ ap (λ xs. es ++ xs) (sym (stamped-append time events more))) is,
)

pub added_then : (time : ℕ) (old mid new : State) → (HasCleanDisk new → HasCleanDisk mid) → AddsAt time old mid → AddsAt time mid new → AddsAt time old new
added_then time old mid new before first then clean t es was = by (first (before clean) t es was)
  where
    by : HasMore time t es mid → HasMore time t es new
    by (events, is) = added_more time t es new events (then clean t (es ++ stamped time events) is)

-- to the book that was begun
pub added_to : (terms : PlainTerms) (time : ℕ) (old mid new : State) → (HasCleanDisk new → HasCleanDisk mid)
    → (HasCleanDisk mid → WasReady old → (t : PlainTerms) (es : List Entry) → HasEntries terms t old es → IsLedgerOf t es mid) → AddsAt time mid new → AddsToBook terms time old new
added_to terms time old mid new before begun adds clean ready t es has = adds clean t es (begun (before clean) ready t es has)

-- what was held back was kept, or is held back still
pub either_clean : (old new : State) (out_old out_new : Option (List ℕ)) (events events_left : List KeptEvent) (text text_left : List ℕ)
    → IsHeld old new out_old out_new events events_left text text_left ⊎ IsFlushed old new out_old out_new events events_left text text_left → HasCleanDisk new → HasCleanDisk old
either_clean old new out_old out_new events events_left text text_left (inl held) = held.clean
either_clean old new out_old out_new events events_left text text_left (inr flushed) = flushed.clean
