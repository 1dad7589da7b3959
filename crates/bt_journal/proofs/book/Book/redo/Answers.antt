use Rattle.journal_keeping.specs.Boxes.{lasts_of}
use Rattle.journal_keeping.proofs.BoxesLemmas.{KeepsBoxes-forth}
use Rattle.journal_model.specs.Book.{PlainBook, brought_back}
use Rattle.journal_invariant.proofs.Staying.{redone_well}
use Rattle.bt_journal.proofs.WellLemmas.{well_as}
use Rattle.bt_journal.proofs.book.Book.redo.Goals as goal

pub invariant_of-self : goal.invariant_of-self
invariant_of-self g c =
    let b = c.self.inside in
    let p : PlainBook = record { line = b.line.pasts; gone = b.marks.gone; marks = b.marks.standing; forgotten_marks = b.marks.forgotten; gave_up = b.gave_up; last_serial = b.last_serial; last_map = b.last_ids.map_id; last_prog = b.last_ids.prog_id; limits = b.limits } in
    (KeepsBoxes-forth b.line.makes _ b.line.pasts _ (lasts_of b.ids.base b.ids.lasts.items) b.ids.maps.items b.ids.progs.items c.forth.ensures.boxes c.forth.ensures.pasts c.self.invariant.0, c.self.invariant.1, well_as (brought_back p) _ _ c.forth.ensures.pasts (redone_well p c.self.invariant.2))
