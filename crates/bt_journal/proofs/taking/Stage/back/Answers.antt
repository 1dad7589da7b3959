use Rattle.std.proofs.Common.{sym, ◌∙◌, ap, subst, length}
use Rattle.journal_model.specs.Plain.{now}
use Rattle.journal_model.specs.Book.{PlainBook}
use Rattle.journal_keeping.specs.Boxes.{lasts_of, states_of}
use Rattle.bt_journal.specs.Taking.{IsPart}
use Rattle.journal_keeping.proofs.BoxesLemmas.{KeepsBoxes-same}
use Rattle.bt_journal.proofs.OrderedLemmas.{order_back, rest_back}
use Rattle.bt_journal.proofs.WellLemmas.{well_as}
use Rattle.bt_journal.proofs.JoinLemmas.{room_same}
use Rattle.bt_journal.proofs.TakingLemmas.{part_back}
use Rattle.bt_journal.proofs.taking.Stage.back.Goals as goal

pub invariant_of-self : goal.invariant_of-self
invariant_of-self g c =
    let i = c.self.inside in
    let n = c.back.new.self in
    let same = c.back.ensures.turns.same in
    let p : PlainBook = record { line = i.line.line.pasts; gone = i.marks.gone; marks = i.marks.standing; forgotten_marks = i.marks.forgotten; gave_up = i.gave_up; last_serial = i.last_serial; last_map = i.last_ids.map_id; last_prog = i.last_ids.prog_id; limits = i.limits } in
    let v = c.self.invariant in (
      KeepsBoxes-same i.line.line.makes n.line.makes i.line.line.pasts n.line.pasts (lasts_of i.ids.base i.ids.lasts.items) i.ids.maps.items i.ids.progs.items same.makes (ap states_of same.pasts) v.0,
      v.1,
      subst (λ p. IsPart (now p) n.state n.left) (sym same.pasts) (part_back (now i.line.line.pasts) i.line n c.back.result c.back.ensures.turns v.2),
      v.3 ∙ ap (λ p. length p.undone) (sym same.pasts),
      v.4,
      v.5,
      v.6,
      v.7,
      well_as p _ _ same.pasts v.8,
      order_back i.last_serial i.line n c.back.result c.back.ensures.turns v.9,
      rest_back i.last_serial i.line n c.back.result c.back.ensures.turns (ap (λ s. s.staged.out) c.self.view_is ∙ c.requires.not_out) v.9 v.10,
      room_same p n.line.pasts i.line.serial n.serial same.pasts same.serial v.11,
      c.back.ensures.turns.state,
    )
