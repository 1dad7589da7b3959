use Rattle.std.proofs.Common.{sym, ◌∙◌, ap, subst, length}
use Rattle.journal_model.specs.Plain.{now}
use Rattle.journal_model.specs.Book.{PlainBook}
use Rattle.journal_keeping.specs.Boxes.{lasts_of, states_of}
use Rattle.bt_journal.specs.Taking.{IsPart}
use Rattle.journal_keeping.proofs.BoxesLemmas.{KeepsBoxes-same}
use Rattle.bt_journal.proofs.OrderedLemmas.{in_order, order_alone, rest_alone}
use Rattle.bt_journal.proofs.WellLemmas.{well_as}
use Rattle.bt_journal.proofs.JoinLemmas.{room_same}
use Rattle.bt_journal.proofs.TakingLemmas.{part_alone}
use Rattle.bt_journal.proofs.taking.Stage.exchange.Goals as goal

pub exchange-requires-clause-in_order : goal.exchange-requires-clause-in_order
exchange-requires-clause-in_order g c κs within =
    in_order c.self.inside.last_serial c.self.inside.line (ap (λ s. s.staged.left) c.self.view_is ∙ c.requires.none_left) c.self.invariant.9

pub invariant_of-self : goal.invariant_of-self
invariant_of-self g c =
    let i = c.self.inside in
    let n = c.exchange.new.self in
    let same = c.exchange.ensures.takes_out.same in
    let p : PlainBook = record { line = i.line.line.pasts; gone = i.marks.gone; marks = i.marks.standing; forgotten_marks = i.marks.forgotten; gave_up = i.gave_up; last_serial = i.last_serial; last_map = i.last_ids.map_id; last_prog = i.last_ids.prog_id; limits = i.limits } in
    let v = c.self.invariant in
    let not_out = ap (λ s. s.staged.out) c.self.view_is ∙ c.requires.not_out in
    let none_left = ap (λ s. s.staged.left) c.self.view_is ∙ c.requires.none_left in (
      KeepsBoxes-same i.line.line.makes n.line.makes i.line.line.pasts n.line.pasts (lasts_of i.ids.base i.ids.lasts.items) i.ids.maps.items i.ids.progs.items same.makes (ap states_of same.pasts) v.0,
      v.1,
      subst (λ p. IsPart (now p) n.state n.left) (sym same.pasts) (part_alone (now i.line.line.pasts) i.line n c.exchange.ensures.takes_out v.2),
      v.3 ∙ ap (λ p. length p.undone) (sym same.pasts),
      v.4,
      v.5,
      v.6,
      v.7,
      well_as p _ _ same.pasts v.8,
      order_alone i.last_serial i.line n c.exchange.ensures.takes_out none_left v.9,
      rest_alone i.last_serial i.line n c.exchange.ensures.takes_out not_out none_left v.9 v.10,
      room_same p n.line.pasts i.line.serial n.serial same.pasts same.serial v.11,
      c.exchange.ensures.takes_out.state,
    )
