use Rattle.std.proofs.Common.{◌≡◌, ◌≤◌, None, length, reverse, sym, ◌∙◌, ap, arith}
use Rattle.std.proofs.lemmas.List.{length-append}
use Rattle.journal_model.specs.Book.{PlainBook, back_to}
use Rattle.journal_model.specs.Plain.{cut}
use Rattle.journal_model.specs.Forget.{based_at}
use Rattle.journal_model.specs.Rebase.{still_taken_out}
use Rattle.journal_model.specs.Well.{IsWellBook}
use Rattle.journal_invariant.proofs.Staying.{undone_well}
use Rattle.journal_invariant.proofs.Forgetting.{forgotten_well}
use Rattle.bt_journal.specs.BookView.{BookView}
use Rattle.journal_keeping.proofs.AgeLemmas.{taken_by_age}
use Rattle.bt_journal.proofs.ForgetLemmas.{all_begin}
use Rattle.bt_journal.proofs.WellLemmas.{well_marks}
use Rattle.bt_journal.proofs.book.Book.forget_first.Goals as goal

pub first_taking_out-requires-clause-by_age : goal.first_taking_out-requires-clause-by_age
first_taking_out-requires-clause-by_age g c κs bounds =
    let b = c.self.inside in
    let p : PlainBook = record { line = b.line.pasts; gone = b.marks.gone; marks = b.marks.standing; forgotten_marks = b.marks.forgotten; gave_up = b.gave_up; last_serial = b.last_serial; last_map = b.last_ids.map_id; last_prog = b.last_ids.prog_id; limits = b.limits } in
    let w : IsWellBook (back_to p c.args.count) = undone_well p c.self.invariant.2 c.args.count in
    taken_by_age (cut c.args.count b.line.pasts) w.follow w.rising

pub advance-requires-clause-begin : goal.advance-requires-clause-begin
advance-requires-clause-begin g c κs bounds =
    let b = c.self.inside in
    let p : PlainBook = record { line = b.line.pasts; gone = b.marks.gone; marks = b.marks.standing; forgotten_marks = b.marks.forgotten; gave_up = b.gave_up; last_serial = b.last_serial; last_map = b.last_ids.map_id; last_prog = b.last_ids.prog_id; limits = b.limits } in
    all_begin (cut c.args.count b.line.pasts) (undone_well p c.self.invariant.2 c.args.count).follow (sym c.first_taking_out.ensures ∙ c.in-None.is)

pub invariant_of-self : goal.invariant_of-self
invariant_of-self g c =
    let b = c.self.inside in
    let p : PlainBook = record { line = b.line.pasts; gone = b.marks.gone; marks = b.marks.standing; forgotten_marks = b.marks.forgotten; gave_up = b.gave_up; last_serial = b.last_serial; last_map = b.last_ids.map_id; last_prog = b.last_ids.prog_id; limits = b.limits } in
    let none : still_taken_out c.args.count p.line ≡ None = sym c.first_taking_out.ensures ∙ c.in-None.is in
    let low : c.args.count ≤ length b.line.pasts.moments = omega (arith, c.requires, ap (λ (v : BookView). length v.plain.line.moments) c.self.view_is) in (
      c.advance.ensures.boxes,
      c.advance.ensures.lasts b.last_ids c.self.invariant.1,
      well_marks (based_at p c.args.count) _ c.count_from.new.self _ c.advance.ensures.pasts c.count_from.ensures.gone c.count_from.ensures.standing c.count_from.ensures.forgotten
          (forgotten_well p c.self.invariant.2 c.args.count none low),
    )

pub count_from-requires : goal.count_from-requires
count_from-requires g c =
    let b = c.self.inside in
    omega (arith, c.self.invariant.2.serials, length-append (reverse b.line.pasts.undone) b.line.pasts.moments, c.requires, ap (λ (v : BookView). length v.plain.line.moments) c.self.view_is, c.self.ranges.0)
