use Rattle.journal_keeping.specs.Boxes.{lasts_of}
use Rattle.journal_keeping.proofs.BoxesLemmas.{KeepsBoxes-same}
use Rattle.journal_model.specs.Book.{PlainBook, back_to}
use Rattle.journal_invariant.proofs.Staying.{undone_well}
use Rattle.bt_journal.proofs.WellLemmas.{well_marks}
use Rattle.bt_journal.proofs.book.Book.back_to.Goals as goal

pub invariant_of-self : goal.invariant_of-self
invariant_of-self g c =
    let b = c.self.inside in
    let p : PlainBook = record { line = b.line.pasts; gone = b.marks.gone; marks = b.marks.standing; forgotten_marks = b.marks.forgotten; gave_up = b.gave_up; last_serial = b.last_serial; last_map = b.last_ids.map_id; last_prog = b.last_ids.prog_id; limits = b.limits } in
    (KeepsBoxes-same b.line.makes c.go_back.new.line.makes b.line.pasts c.go_back.new.line.pasts (lasts_of b.ids.base b.ids.lasts.items) b.ids.maps.items b.ids.progs.items c.go_back.ensures.boxes c.go_back.ensures.states c.self.invariant.0, c.self.invariant.1, well_marks (back_to p c.args.count) _ c.keep_up_to.new.self _ c.go_back.ensures.pasts c.keep_up_to.ensures.gone c.keep_up_to.ensures.standing c.keep_up_to.ensures.forgotten (undone_well p c.self.invariant.2 c.args.count))

pub invariant_of-self-else-undone-gt0 : goal.invariant_of-self-else-undone-gt0
invariant_of-self-else-undone-gt0 g c =
    let b = c.self.inside in
    let p : PlainBook = record { line = b.line.pasts; gone = b.marks.gone; marks = b.marks.standing; forgotten_marks = b.marks.forgotten; gave_up = b.gave_up; last_serial = b.last_serial; last_map = b.last_ids.map_id; last_prog = b.last_ids.prog_id; limits = b.limits } in
    (KeepsBoxes-same b.line.makes c.go_back.new.line.makes b.line.pasts c.go_back.new.line.pasts (lasts_of b.ids.base b.ids.lasts.items) b.ids.maps.items b.ids.progs.items c.go_back.ensures.boxes c.go_back.ensures.states c.self.invariant.0, c.self.invariant.1, well_marks (back_to p c.args.count) _ c.keep_up_to.new.self _ c.go_back.ensures.pasts c.keep_up_to.ensures.gone c.keep_up_to.ensures.standing c.keep_up_to.ensures.forgotten (undone_well p c.self.invariant.2 c.args.count))
