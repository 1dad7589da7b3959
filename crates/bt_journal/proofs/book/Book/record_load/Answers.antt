use Rattle.std.proofs.Common.{◌+◌, ◌∙◌, refl, sym, ap}
use Rattle.host_state.specs.declared.change.Change.TheVariants.{Load}
use Rattle.journal_keeping.specs.Boxes.{lasts_of}
use Rattle.journal_model.specs.Book.{PlainBook}
use Rattle.bt_journal.proofs.RecordLemmas.{made_at, made_loaded}
use Rattle.bt_journal.proofs.WellLemmas.{well_recorded}
use Rattle.bt_journal.specs.BookView.{BookView}
use Rattle.host_state.proofs.CallLemmas.{within_none}
use Rattle.bt_journal.proofs.book.Book.record_load.Goals as goal

pub note_moment-requires-clause-made : goal.note_moment-requires-clause-made
note_moment-requires-clause-made g c κs within =
    let b = c.self.inside in
    let n = c.append.new.line in
    let same = c.reserve.ensures in
    made_at n b.ids.base _ b.ids.lasts.items _ b.ids.maps.items _ b.ids.progs.items _ _ c.in-Ok-append.reply same.base same.lasts same.maps same.progs
    (made_loaded b.line n (lasts_of b.ids.base b.ids.lasts.items) b.ids.maps.items b.ids.progs.items b.last_ids (b.last_serial + 1) c.args.code c.args.name c.args.path c.in-Ok-append.reply
    (record { boxes = c.self.invariant.0; given = c.self.invariant.1 }) c.in-Ok-append.ensures.pasts c.append.ensures.boxes)

pub invariant_of-self-in-Ok-append : goal.invariant_of-self-in-Ok-append
invariant_of-self-in-Ok-append g c =
    let b = c.self.inside in
    let n = c.note_moment.ensures in
    let p : PlainBook = record { line = b.line.pasts; gone = b.marks.gone; marks = b.marks.standing; forgotten_marks = b.marks.forgotten; gave_up = b.gave_up; last_serial = b.last_serial; last_map = b.last_ids.map_id; last_prog = b.last_ids.prog_id; limits = b.limits } in
    let pasts = c.in-Ok-append.ensures.pasts in (
      n.boxes,
      n.lasts,
      well_recorded p _ (Load (b.last_ids.prog_id + 1) c.args.code c.args.name c.args.path) pasts.0 c.in-Ok-append.reply
          (λ i. record p { line = (n.pasts ∙ pasts.2) i; gave_up = c.given_up_by-self-inside.ensures b.line.pasts.undone (sym c.undone_count-undone.ensures) i; last_serial = b.last_serial + 1; last_prog = b.last_ids.prog_id + 1 })
          refl pasts.1 c.self.invariant.2,
    )

pub returns-in-Err-clause-work : goal.returns-in-Err-clause-work
returns-in-Err-clause-work g c = within_none 2 _ _ (ap (λ (v : BookView). v.work) c.self.view_is)
