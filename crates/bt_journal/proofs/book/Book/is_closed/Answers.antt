use Rattle.std.proofs.Common.{◌≡◌, ◌&&◌, Bool, true, false, not, length, refl, sym, ◌∙◌, ap, subst, arith}
use Rattle.std.specs.Option.{is_some}
use Rattle.std.proofs.lemmas.Bool.{le-leb}
use Rattle.journal_model.specs.Window.{can_fold}
use Rattle.journal_model.specs.Book.{PlainBook, is_full}
use Rattle.journal_invariant.proofs.Firsts.{folds}
use Rattle.bt_journal.specs.BookView.{BookView}
use Rattle.bt_journal.proofs.book.Book.is_closed.Goals as goal

not_not : (t : Bool) → not (not t) ≡ t
not_not true = refl
not_not false = refl

pub returns-then-moment_count-self : goal.returns-then-moment_count-self
returns-then-moment_count-self g c =
    let b = c.self.inside in
    let p : PlainBook = record { line = b.line.pasts; gone = b.marks.gone; marks = b.marks.standing; forgotten_marks = b.marks.forgotten; gave_up = b.gave_up; last_serial = b.last_serial; last_map = b.last_ids.map_id; last_prog = b.last_ids.prog_id; limits = b.limits } in
    let full : is_full p ≡ true = le-leb b.limits.journal (length b.line.pasts.moments) (omega (arith, c.if-moment_count-self.true, c.moment_count.ensures)) in
    let joins : can_fold p.line ≡ not c.is_none.result = folds p c.self.invariant.2 ∙ ap is_some (sym c.first_in_force.ensures) ∙ c.is_none.ensures in
    subst (λ (v : BookView). c.is_none.result ≡ is_full v.plain && not (can_fold v.plain.line)) c.self.view_is
    (sym (ap (λ t. t && not (can_fold p.line)) full ∙ ap not joins ∙ not_not c.is_none.result))
