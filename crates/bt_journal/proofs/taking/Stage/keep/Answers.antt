use Rattle.std.proofs.Common.{◌+◌, ◌∙◌, ap, refl, sym}
use Rattle.journal_keeping.specs.Boxes.{lasts_of}
use Rattle.journal_model.specs.Book.{PlainBook}
use Rattle.bt_journal.proofs.WellLemmas.{well_taken}
use Rattle.bt_journal.proofs.TakingLemmas.{made_taken}
use Rattle.bt_journal.proofs.JoinLemmas.{taken_can_join}
use Rattle.bt_journal.proofs.taking.Stage.keep.Goals as goal

pub note_moment-requires-clause-made : goal.note_moment-requires-clause-made
note_moment-requires-clause-made g c κs within =
    let i = c.self.inside in
    let v = c.self.invariant in
    made_taken i.line c.keep-line.result (i.last_serial + 1) (lasts_of i.ids.base i.ids.lasts.items) i.ids.maps.items i.ids.progs.items i.last_ids v.0 v.1 v.2 c.keep-line.ensures.pasts c.keep-line.ensures.boxes

pub invariant_of-book : goal.invariant_of-book
invariant_of-book g c =
    let i = c.self.inside in
    let v = c.self.invariant in
    let n = c.note_moment.ensures in
    let p : PlainBook = record { line = i.line.line.pasts; gone = i.marks.gone; marks = i.marks.standing; forgotten_marks = i.marks.forgotten; gave_up = i.gave_up; last_serial = i.last_serial; last_map = i.last_ids.map_id; last_prog = i.last_ids.prog_id; limits = i.limits } in
    let out = ap (λ s. s.staged.out) c.self.view_is ∙ c.requires.out in
    let left = ap (λ s. s.staged.left) c.self.view_is ∙ c.requires.none_left in
    let gave = c.given_up_by.ensures i.line.line.pasts.undone (sym v.3) in
    (n.boxes, n.lasts, well_taken p _ i.line (λ j. record p { line = (n.pasts ∙ c.keep-line.ensures.pasts) j; gave_up = gave j; last_serial = p.last_serial + 1 }) refl out left v.10 v.12 v.8)

pub keep_window-requires : goal.keep_window-requires
keep_window-requires g c =
    let i = c.self.inside in
    let v = c.self.invariant in
    let n = c.note_moment.ensures in
    let p : PlainBook = record { line = i.line.line.pasts; gone = i.marks.gone; marks = i.marks.standing; forgotten_marks = i.marks.forgotten; gave_up = i.gave_up; last_serial = i.last_serial; last_map = i.last_ids.map_id; last_prog = i.last_ids.prog_id; limits = i.limits } in
    let out = ap (λ s. s.staged.out) c.self.view_is ∙ c.requires.out in
    let left = ap (λ s. s.staged.left) c.self.view_is ∙ c.requires.none_left in
    let gave = c.given_up_by.ensures i.line.line.pasts.undone (sym v.3) in
    (c.type_bounds.send-K, taken_can_join p _ i.line (λ j. record p { line = (n.pasts ∙ c.keep-line.ensures.pasts) j; gave_up = gave j; last_serial = p.last_serial + 1 }) refl out left v.10 v.11)
