use Rattle.std.proofs.Common.{◌≡◌, ◌&&◌, ◌||◌, true, not, nat_eq, length, sym, ◌∙◌, ap, subst, arith}
use Rattle.std.proofs.lemmas.Bool.{le-leb}
use Rattle.journal_model.specs.Window.{can_fold, is_first, is_held}
use Rattle.journal_model.specs.Book.{PlainBook, is_full}
use Rattle.journal_invariant.proofs.Firsts.{holds}
use Rattle.bt_journal.specs.BookView.{BookView}
use Rattle.bt_journal.proofs.book.Book.is_closed_to.Goals as goal

pub returns-in-Some : goal.returns-in-Some
returns-in-Some g c =
    let b = c.self.inside in
    let p : PlainBook = record { line = b.line.pasts; gone = b.marks.gone; marks = b.marks.standing; forgotten_marks = b.marks.forgotten; gave_up = b.gave_up; last_serial = b.last_serial; last_map = b.last_ids.map_id; last_prog = b.last_ids.prog_id; limits = b.limits } in
    let full : is_full p ≡ true = le-leb b.limits.journal (length b.line.pasts.moments) (omega (arith, c.if-moment_count-self.true, c.moment_count.ensures)) in
    subst (λ (v : BookView). nat_eq c.in-Some.first c.args.serial ≡ is_full v.plain && (is_first c.args.serial v.plain.line || not (can_fold v.plain.line))) c.self.view_is
    (sym (ap (λ t. t && (is_first c.args.serial p.line || not (can_fold p.line))) full
    ∙ holds p c.self.invariant.2 c.args.serial
    ∙ ap (is_held c.args.serial) (sym c.first_in_force.ensures ∙ c.in-Some.is)))

pub returns-in-None : goal.returns-in-None
returns-in-None g c =
    let b = c.self.inside in
    let p : PlainBook = record { line = b.line.pasts; gone = b.marks.gone; marks = b.marks.standing; forgotten_marks = b.marks.forgotten; gave_up = b.gave_up; last_serial = b.last_serial; last_map = b.last_ids.map_id; last_prog = b.last_ids.prog_id; limits = b.limits } in
    let full : is_full p ≡ true = le-leb b.limits.journal (length b.line.pasts.moments) (omega (arith, c.if-moment_count-self.true, c.moment_count.ensures)) in
    subst (λ (v : BookView). true ≡ is_full v.plain && (is_first c.args.serial v.plain.line || not (can_fold v.plain.line))) c.self.view_is
    (sym (ap (λ t. t && (is_first c.args.serial p.line || not (can_fold p.line))) full
    ∙ holds p c.self.invariant.2 c.args.serial
    ∙ ap (is_held c.args.serial) (sym c.first_in_force.ensures ∙ c.in-None.is)))
