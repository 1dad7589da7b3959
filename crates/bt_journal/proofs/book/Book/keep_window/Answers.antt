use Rattle.std.proofs.Common.{◌<◌, length, sym, subst, arith}
use Rattle.journal_model.specs.Book.{PlainBook}
use Rattle.bt_journal.specs.BookView.{BookView}
use Rattle.bt_journal.specs.Joining.{CanJoin}
use Rattle.bt_journal.proofs.JoinLemmas.{joined_begin, joined_well}
use Rattle.bt_journal.proofs.book.Book.keep_window.Goals as goal

pub fold-requires-clause-begin : goal.fold-requires-clause-begin
fold-requires-clause-begin g c κs bounds =
    let b = c.self.inside in
    let p : PlainBook = record { line = b.line.pasts; gone = b.marks.gone; marks = b.marks.standing; forgotten_marks = b.marks.forgotten; gave_up = b.gave_up; last_serial = b.last_serial; last_map = b.last_ids.map_id; last_prog = b.last_ids.prog_id; limits = b.limits } in
    let can : CanJoin p = subst (λ (v : BookView). CanJoin v.plain) (sym c.self.view_is) c.requires in
    joined_begin p c.self.invariant.2 (can (omega (arith, c.if-moment_count-self.true, c.moment_count.ensures)))

pub invariant_of-self : goal.invariant_of-self
invariant_of-self g c =
    let b = c.self.inside in
    let p : PlainBook = record { line = b.line.pasts; gone = b.marks.gone; marks = b.marks.standing; forgotten_marks = b.marks.forgotten; gave_up = b.gave_up; last_serial = b.last_serial; last_map = b.last_ids.map_id; last_prog = b.last_ids.prog_id; limits = b.limits } in
    let can : CanJoin p = subst (λ (v : BookView). CanJoin v.plain) (sym c.self.view_is) c.requires in
    let more : b.limits.journal < length b.line.pasts.moments = omega (arith, c.if-moment_count-self.true, c.moment_count.ensures) in
    let f = c.fold.ensures in
    let m = c.fold-then-moment_count-self.ensures in (
      f.boxes,
      f.lasts b.last_ids c.self.invariant.1,
      joined_well p c.fold.new.line.pasts c.fold-then-moment_count-self.new.self c.self.invariant.2 (omega (arith, more)) (can more) f.pasts m.gone m.standing m.forgotten,
    )
