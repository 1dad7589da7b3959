use Rattle.std.proofs.Common.{◌≡◌, pos, refl, sym, ap, ◌∙◌}
use Rattle.sqlite_value.specs.declared.value.Value.TheVariants.{Int}
use Rattle.kept_event.specs.Row.{row_of}
use Rattle.kept_ledger.specs.Columns.{row_in}
use Rattle.kept_ledger.proofs.ColumnsRead.{row_back, same_some, never_none}
use Rattle.kept_ledger.proofs.event_at.event_at.Goals as goal

pub returns-in-Some-3-clause-back : goal.returns-in-Some-3-clause-back
returns-in-Some-3-clause-back c e kept is =
    let row : c.in-Some-2.row ≡ row_of e.event = same_some (sym c.in-Some-2.is ∙ c.in_ok-row.ensures ∙ ap row_in is ∙ row_back (Int (pos c.args.place)) (row_of e.event) kept.fits) in
    same_some (sym c.in-Some-3.is ∙ c.in_ok-event.ensures.back e.event kept.bounded row)

pub returns-clause-back : goal.returns-clause-back
returns-clause-back c e kept is =
    let row : c.in-Some-2.row ≡ row_of e.event = same_some (sym c.in-Some-2.is ∙ c.in_ok-row.ensures ∙ ap row_in is ∙ row_back (Int (pos c.args.place)) (row_of e.event) kept.fits) in
    never_none (sym (c.in_ok-event.ensures.back e.event kept.bounded row) ∙ c.in-None.is)

pub returns-clause-shows : goal.returns-clause-shows
returns-clause-shows c = (
  refl,
  λ e kept is.
      let row : c.in-Some-2.row ≡ row_of e.event = same_some (sym c.in-Some-2.is ∙ c.in_ok-row.ensures ∙ ap row_in is ∙ row_back (Int (pos c.args.place)) (row_of e.event) kept.fits) in
      never_none (sym (c.in_ok-event.ensures.back e.event kept.bounded row) ∙ c.in-None.is),
)
