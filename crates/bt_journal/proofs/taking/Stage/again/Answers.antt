use Rattle.std.proofs.Common.{sym, ◌∙◌, ap, subst, length}
use Rattle.journal_model.specs.Plain.{now}
use Rattle.journal_model.specs.Book.{PlainBook}
use Rattle.journal_keeping.specs.Boxes.{lasts_of, states_of}
use Rattle.bt_journal.specs.Taking.{IsPart}
use Rattle.journal_keeping.proofs.BoxesLemmas.{KeepsBoxes-same}
use Rattle.bt_journal.proofs.OrderedLemmas.{order_went, rest_went, replays_went}
use Rattle.bt_journal.proofs.WellLemmas.{well_as}
use Rattle.bt_journal.proofs.JoinLemmas.{room_same}
use Rattle.bt_journal.proofs.TakingLemmas.{boxes_left, part_went, same_went}
use Rattle.bt_journal.proofs.taking.Stage.again.Goals as goal

pub again-requires-clause-boxes : goal.again-requires-clause-boxes
again-requires-clause-boxes g c κs within =
    let i = c.self.inside in
    boxes_left i.line (lasts_of i.ids.base i.ids.lasts.items) i.ids.maps.items i.ids.progs.items c.self.invariant.0 c.self.invariant.2

pub invariant_of-self : goal.invariant_of-self
invariant_of-self g c =
    let i = c.self.inside in
    let n = c.again.new.self in
    let same = same_went i.line n c.again.result c.again.ensures.goes_on in
    let p : PlainBook = record { line = i.line.line.pasts; gone = i.marks.gone; marks = i.marks.standing; forgotten_marks = i.marks.forgotten; gave_up = i.gave_up; last_serial = i.last_serial; last_map = i.last_ids.map_id; last_prog = i.last_ids.prog_id; limits = i.limits } in
    let v = c.self.invariant in (
      KeepsBoxes-same i.line.line.makes n.line.makes i.line.line.pasts n.line.pasts (lasts_of i.ids.base i.ids.lasts.items) i.ids.maps.items i.ids.progs.items same.makes (ap states_of same.pasts) v.0,
      v.1,
      subst (λ p. IsPart (now p) n.state n.left) (sym same.pasts) (part_went (now i.line.line.pasts) i.line n c.again.result c.again.ensures.goes_on v.2),
      v.3 ∙ ap (λ p. length p.undone) (sym same.pasts),
      v.4,
      v.5,
      v.6,
      v.7,
      well_as p _ _ same.pasts v.8,
      order_went i.last_serial i.line n c.again.result c.again.ensures.goes_on v.9,
      rest_went i.line n c.again.result c.again.ensures.goes_on v.10,
      room_same p n.line.pasts i.line.serial n.serial same.pasts same.serial v.11,
      replays_went i.line n c.again.result c.again.ensures.goes_on v.12,
    )
