use Rattle.std.proofs.Common.{◌≡◌, ℕ, sym, ap₂, ◌∙◌}
use Rattle.kept_event.specs.declared.event.KeptEvent.{KeptEvent}
use Rattle.kept_event.specs.Row.{row_of}
use Rattle.kept_ledger.specs.Ledger.{Entry}
use Rattle.kept_ledger.proofs.ColumnsRead.{same_some, never_none}
use Rattle.kept_log.proofs.timed.timed_at.Goals as goal

pub returns-in-Some-3-clause-back : goal.returns-in-Some-3-clause-back
returns-in-Some-3-clause-back c e h =
    let time : c.in-Some.time ≡ e.time = same_some (c.in-Some.ensures ∙ h.time) in
    let row : c.in-Some-2.columns ≡ row_of e.event = same_some (sym c.in-Some-2.is ∙ c.in_ok-columns.ensures ∙ h.row) in
    let event : c.in-Some-3.event ≡ e.event = same_some (sym c.in-Some-3.is ∙ c.in_ok-event.ensures.back e.event h.bounded row) in
    ap₂ (λ (t : ℕ) (k : KeptEvent). let made : Entry = record { time = t; event = k } in made) time event

pub returns-clause-back : goal.returns-clause-back
returns-clause-back c e h =
    let row : c.in-Some-2.columns ≡ row_of e.event = same_some (sym c.in-Some-2.is ∙ c.in_ok-columns.ensures ∙ h.row) in
    absurd (never_none (sym (c.in_ok-event.ensures.back e.event h.bounded row) ∙ c.in-None.is))
