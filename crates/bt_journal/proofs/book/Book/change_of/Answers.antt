use Rattle.journal_model.specs.Book.{PlainBook}
use Rattle.bt_journal.proofs.WellLemmas.{force_in_order}
use Rattle.bt_journal.proofs.book.Book.change_of.Goals as goal

pub change_of-requires-after_bounds : goal.change_of-requires-after_bounds
change_of-requires-after_bounds g c κs bounds =
    let b = c.self.inside in
    let p : PlainBook = record { line = b.line.pasts; gone = b.marks.gone; marks = b.marks.standing; forgotten_marks = b.marks.forgotten; gave_up = b.gave_up; last_serial = b.last_serial; last_map = b.last_ids.map_id; last_prog = b.last_ids.prog_id; limits = b.limits } in
    (force_in_order p c.self.invariant.2).0
