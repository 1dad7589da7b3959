use Rattle.std.proofs.Common.{◌≡◌, ◌++◌, ◌<◌, ◌&&◌, ◌||◌, not, ℕ, false, [], List, Ok, None, length, refl, sym, ◌∙◌, ap, subst, arith, rules}
use Rattle.std.proofs.lemmas.List.{append-nil}
use Rattle.std.specs.Prelude.{IsTrue, vec_len, vec_capacity}
use Rattle.std.specs.VecDeque.{deque_len, deque_capacity}
use Rattle.journal_model.specs.Replay.{replay}
use Rattle.journal_model.specs.Plain.{Pasts, now, newest_force}
use Rattle.journal_model.specs.Book.{PlainBook, is_full}
use Rattle.journal_model.specs.Window.{can_fold, is_first}
use Rattle.journal_model.proofs.Cases.{has_room_without}
use Rattle.journal_model.specs.Well.{Each, IsInOrder, IsWellBook}
use Rattle.journal_model.specs.Without.{without_fault}
use Rattle.journal_model.specs.Force.{is_in_force}
use Rattle.journal_keeping.specs.declared.ids.LastIds.{LastIds}
use Rattle.journal_keeping.specs.Boxes.{KeepsBoxes, IsUpTo, states_of, lasts_of}
use Rattle.journal_keeping.specs.Staged.{Staged}
use Rattle.bt_journal.specs.BookView.{BookView}
use Rattle.bt_journal.specs.Taking.{IsPart, IsRest, HasRoomWithout}
use Rattle.bt_journal.proofs.OrderedLemmas.{rest_begun}
use Rattle.bt_journal.proofs.WellLemmas.{force_in_order, force_replayed}
use Rattle.bt_journal.proofs.book.Book.stage.Goals as goal

pub invariant_of-result : goal.invariant_of-result
invariant_of-result g c =
    let b = c.book.inside in
    let v = c.book.invariant in
    let n = c.reserve.new.self in
    let same = c.reserve.ensures in
    let p : PlainBook = record { line = b.line.pasts; gone = b.marks.gone; marks = b.marks.standing; forgotten_marks = b.marks.forgotten; gave_up = b.gave_up; last_serial = b.last_serial; last_map = b.last_ids.map_id; last_prog = b.last_ids.prog_id; limits = b.limits } in
    let among : IsTrue (is_in_force c.args.serial (newest_force b.line.pasts.moments)) =
    ap (λ (v : BookView). is_in_force c.args.serial (newest_force v.plain.line.moments)) (c.book.view_is ∙ sym c.self.view_is) ∙ sym c.is_in_force.ensures ∙ c.if-not-is_in_force.false in
    subst (λ (s : Staged).
    KeepsBoxes s.line.makes (states_of s.line.pasts) (lasts_of n.base n.lasts.items) n.maps.items n.progs.items
    × Each (IsUpTo b.last_ids) (lasts_of n.base n.lasts.items)
    × IsPart (now s.line.pasts) s.state s.left
    × (c.undone_count-undone.result ≡ length s.line.pasts.undone)
    × (b.last_serial < b.limits.last_serial)
    × (vec_len n.maps < vec_capacity n.maps)
    × (vec_len n.progs < vec_capacity n.progs)
    × (deque_len n.lasts < deque_capacity n.lasts)
    × IsWellBook (record p { line = s.line.pasts })
    × IsInOrder b.last_serial (s.in_place ++ s.left)
    × IsRest s
    × HasRoomWithout (record p { line = s.line.pasts }) s.serial
    × (replay s.line.pasts.base s.in_place ≡ Ok s.state))
    (sym c.in-Ok-new.ensures) (
      subst (λ (x : LastIds × (List LastIds × (List ℕ × List ℕ))). KeepsBoxes b.line.makes (states_of b.line.pasts) (lasts_of x.0 x.1.0) x.1.1.0 x.1.1.1) (λ i. (sym same.base i, (sym same.lasts i, (sym same.maps i, sym same.progs i)))) v.0,
      subst (λ (x : LastIds × List LastIds). Each (IsUpTo b.last_ids) (lasts_of x.0 x.1)) (λ i. (sym same.base i, sym same.lasts i)) v.1,
      record { maps = λ id make e. e; progs = λ id e. e; boxes_left = tt; progs_left = tt },
      c.undone_count-undone.ensures,
      omega (arith, c.if-self.false, ap (λ (v : BookView). v.plain.last_serial) (c.self.view_is ∙ sym c.book.view_is), ap (λ (v : BookView). v.plain.limits.last_serial) (c.self.view_is ∙ sym c.book.view_is)),
      c.in-Ok.ensures.maps_room,
      c.in-Ok.ensures.progs_room,
      c.in-Ok.ensures.lasts_room,
      v.2,
      subst (IsInOrder b.last_serial) (sym (append-nil (newest_force b.line.pasts.moments))) (force_in_order p v.2),
      rest_begun _ among refl refl refl,
      has_room_without p c.args.serial (ap (λ (v : BookView). is_full v.plain && (is_first c.args.serial v.plain.line || not (can_fold v.plain.line))) c.book.view_is ∙ sym c.is_closed_to.ensures ∙ c.if-is_closed_to.false),
      force_replayed p v.2,
    )

pub returns-in-Ok-new : goal.returns-in-Ok-new
returns-in-Ok-new g c =
    let b = c.book.inside in
    let p : PlainBook = record { line = b.line.pasts; gone = b.marks.gone; marks = b.marks.standing; forgotten_marks = b.marks.forgotten; gave_up = b.gave_up; last_serial = b.last_serial; last_map = b.last_ids.map_id; last_prog = b.last_ids.prog_id; limits = b.limits } in
    let plain : p ≡ c.args.self.plain = ap (λ (v : BookView). v.plain) c.book.view_is in
    let line : b.line.pasts ≡ c.args.self.plain.line = ap (λ (q : PlainBook). q.line) plain in
    subst (λ (s : Staged).
    (without_fault c.args.self.plain c.args.serial ≡ None)
    × (record p { line = s.line.pasts } ≡ c.args.self.plain)
    × (c.work-begun.result ≡ c.args.self.work)
    × (s.line.pasts ≡ c.args.self.plain.line)
    × (s.serial ≡ c.args.serial)
    × (s.in_place ≡ newest_force c.args.self.plain.line.moments)
    × (s.left ≡ [])
    × (s.out ≡ false)
    × (s.state ≡ now c.args.self.plain.line)
    × IsInOrder c.args.self.plain.last_serial s.in_place
    × (replay c.args.self.plain.line.base s.in_place ≡ Ok s.state)
    × (s.line.work ≡ c.args.self.work)
    × (s.to_restore ≡ 0))
    (sym c.in-Ok-new.ensures) (
      search rules,
      plain,
      c.work-begun.ensures ∙ ap (λ (v : BookView). v.work) c.book.view_is,
      line,
      refl,
      ap (λ (q : Pasts). newest_force q.moments) line,
      refl,
      refl,
      ap now line,
      subst (λ n. IsInOrder n (newest_force b.line.pasts.moments)) (ap (λ (q : PlainBook). q.last_serial) plain) (force_in_order p c.book.invariant.2),
      ap (λ (q : Pasts). replay q.base (newest_force b.line.pasts.moments)) (sym line) ∙ force_replayed p c.book.invariant.2,
      ap (λ (v : BookView). v.work) c.book.view_is,
      refl,
    )
