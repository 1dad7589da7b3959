use Rattle.std.proofs.Common.{◌≤◌, [], ◌∷◌, ◌++◌, reverse, refl, sym, ◌∙◌, ap, subst, arith}
use Rattle.std.proofs.lemmas.List.{length-append}
use Rattle.journal_model.specs.Marks.{Mark}
use Rattle.journal_model.specs.Book.{PlainBook, with_mark}
use Rattle.journal_model.specs.Well.{Each}
use Rattle.journal_invariant.proofs.Staying.{marked_well}
use Rattle.journal_keeping.specs.MarksView.{MarksView}
use Rattle.bt_journal.proofs.WellLemmas.{well_marks}
use Rattle.bt_journal.proofs.book.Book.mark.Goals as goal

pub insert-requires-clause-fits : goal.insert-requires-clause-fits
insert-requires-clause-fits g c =
    let b = c.self.inside in
    omega (arith, c.self.invariant.2.serials, length-append (reverse b.line.pasts.undone) b.line.pasts.moments, c.moment_count-moments.ensures, c.self.ranges.0)

pub insert-requires-clause-last : goal.insert-requires-clause-last
insert-requires-clause-last g c =
    subst (λ n. Each (λ (m : Mark). m.moments ≤ n) c.self.inside.marks.standing) (sym c.moment_count-moments.ensures) c.self.invariant.2.marks

pub invariant_of-self : goal.invariant_of-self
invariant_of-self g c =
    let b = c.self.inside in
    let p : PlainBook = record { line = b.line.pasts; gone = b.marks.gone; marks = b.marks.standing; forgotten_marks = b.marks.forgotten; gave_up = b.gave_up; last_serial = b.last_serial; last_map = b.last_ids.map_id; last_prog = b.last_ids.prog_id; limits = b.limits } in
    let same = c.in-Err.ensures.refused in
    (c.self.invariant.0, c.self.invariant.1, well_marks p _ c.insert.new.self _ refl (ap (λ (v : MarksView). v.gone) same) (ap (λ (v : MarksView). v.standing) same) (ap (λ (v : MarksView). v.forgotten) same) c.self.invariant.2)

pub invariant_of-self-2 : goal.invariant_of-self-2
invariant_of-self-2 g c =
    let b = c.self.inside in
    let p : PlainBook = record { line = b.line.pasts; gone = b.marks.gone; marks = b.marks.standing; forgotten_marks = b.marks.forgotten; gave_up = b.gave_up; last_serial = b.last_serial; last_map = b.last_ids.map_id; last_prog = b.last_ids.prog_id; limits = b.limits } in
    let made = c.in-Ok.ensures.standing ∙ ap (λ n. b.marks.standing ++ (let m : Mark = record { name = c.args.name; moments = n } in m) ∷ []) c.moment_count-moments.ensures in
    (c.self.invariant.0, c.self.invariant.1, well_marks (with_mark p c.args.name) _ c.insert.new.self _ refl c.insert.ensures.gone made c.in-Ok.ensures.forgotten (marked_well p c.self.invariant.2 c.args.name))
