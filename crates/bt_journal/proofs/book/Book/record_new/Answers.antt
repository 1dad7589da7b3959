use Rattle.std.proofs.Common.{◌≡◌, ◌+◌, ◌∙◌, ℕ, List, true, false, Ok, Err, Result, Some, sym, ap, subst, arith, length}
use Rattle.std.specs.FinMap as map
use Rattle.bt_objects.specs.Boxes.{make_of}
use Rattle.bt_objects.specs.Ids.{is_among}
use Rattle.bt_objects.specs.declared.make.Make.{Make}
use Rattle.bt_objects.specs.ById.{ById}
use Rattle.host_state.specs.World.{charged_of}
use Rattle.host_state.specs.State.{State}
use Rattle.host_state.specs.Act.{act}
use Rattle.host_state.specs.declared.change.Change.{Change}
use Rattle.host_state.specs.declared.reply.Refusal.TheVariants.{NoMemory}
use Rattle.journal_model.specs.Blank.{Blank}
use Rattle.journal_model.specs.Book.{PlainBook, charged, resolved, noted_as, given_up_by, OrNoMemory}
use Rattle.journal_model.specs.Plain.{Pasts, now, appended}
use Rattle.journal_model.specs.Well.{Each}
use Rattle.journal_keeping.specs.declared.ids.LastIds.{LastIds}
use Rattle.journal_keeping.specs.Boxes.{KeepsBoxes, IsUpTo, lasts_of, states_of}
use Rattle.journal_keeping.specs.Listed.{ListsPasts}
use Rattle.bt_journal.specs.Recording.{Makes}
use Rattle.journal_keeping.specs.Steps.{IsWhy}
use Rattle.journal_keeping.proofs.BoxesLemmas.{charged_is, has_listed}
use Rattle.bt_journal.proofs.RecordLemmas.{IsNew, made_at, made_new, entry_at}
use Rattle.bt_journal.proofs.NewLemmas.{resolved_new, dropped, book_is, refused_new}
use Rattle.bt_journal.proofs.WellLemmas.{new_numbered, well_as, well_recorded}
use Rattle.host_state.specs.declared.reply.Reply.{Reply}
use Rattle.host_state.specs.declared.reply.Refusal.{Refusal}
use Rattle.host_state.specs.Work.{CallsAtMost}
use Rattle.bt_journal.proofs.CallLemmas.{new_calls}
use Rattle.bt_journal.specs.BookView.{BookView}
use Rattle.host_state.proofs.CallLemmas.{within_none}
use Rattle.bt_journal.proofs.book.Book.record_new.Goals as goal

pub place-requires-after_bounds : goal.place-requires-after_bounds
place-requires-after_bounds g c κs bounds =
    let b = c.self.inside in
    let in_use : charged c.args.self.now.plain ≡ charged_of b.line.makes =
    ap (λ v. charged v.plain) (sym c.self.view_is) ∙ sym (charged_is b.line.makes b.line.pasts (lasts_of b.ids.base b.ids.lasts.items) b.ids.maps.items b.ids.progs.items c.self.invariant.0) in
    omega (arith, c.requires.charges, in_use, ap (λ v. v.plain.limits.budget) c.self.view_is, c.self.ranges.0)

pub note_moment-requires-clause-made : goal.note_moment-requires-clause-made
note_moment-requires-clause-made g c κs within =
    let b = c.self.inside in
    let n = c.append.new.line in
    let d = c.resolved-change.result in
    let make : Make = make_of (g.K.MapKind.seen c.args.kind) in
    let blank : Blank = record { make = make; fresh = true } in
    let new : IsNew (b.last_ids.map_id + 1) make d = subst (IsNew (b.last_ids.map_id + 1) make) (sym (c.resolved-change.ensures blank (sym c.charge.ensures))) (resolved_new c.args.change (b.last_ids.map_id + 1) blank c.requires.suits) in
    let same = c.reserve.ensures in
    made_at n b.ids.base _ b.ids.lasts.items _ b.ids.maps.items _ b.ids.progs.items _ _ c.in-Ok-append.reply same.base same.lasts same.maps same.progs
    (made_new b.line c.place.new.self n (lasts_of b.ids.base b.ids.lasts.items) b.ids.maps.items b.ids.progs.items b.last_ids (b.last_serial + 1) d make c.in-Ok-append.reply
    (record { boxes = c.self.invariant.0; given = c.self.invariant.1 }) new c.place.ensures.pasts c.in-Ok-place.ensures.placed c.in-Ok-append.ensures.pasts c.append.ensures.boxes)

pub invariant_of-self-in-Ok-append : goal.invariant_of-self-in-Ok-append
invariant_of-self-in-Ok-append g c =
    let b = c.self.inside in
    let n = c.note_moment.ensures in
    let pasts = c.in-Ok-append.ensures.pasts in
    let d = c.resolved-change.result in
    let id : ℕ = b.last_ids.map_id + 1 in
    let p : PlainBook = record { line = b.line.pasts; gone = b.marks.gone; marks = b.marks.standing; forgotten_marks = b.marks.forgotten; gave_up = b.gave_up; last_serial = b.last_serial; last_map = b.last_ids.map_id; last_prog = b.last_ids.prog_id; limits = b.limits } in
    let make : Make = make_of (g.K.MapKind.seen c.args.kind) in
    let blank : Blank = record { make = make; fresh = true } in
    let new : IsNew id make d = subst (IsNew id make) (sym (c.resolved-change.ensures blank (sym c.charge.ensures))) (resolved_new c.args.change id blank c.requires.suits) in
    let acts : act (now b.line.pasts) d ≡ Ok (pasts.0, c.in-Ok-append.reply) = ap (λ q. act (now q) d) (sym c.place.ensures.pasts) ∙ pasts.1 in
    let line : c.note_moment.new.line.pasts ≡ appended b.line.pasts (entry_at (b.last_serial + 1) d c.in-Ok-append.reply) pasts.0 =
    n.pasts ∙ pasts.2 ∙ ap (λ q. appended q (entry_at (b.last_serial + 1) d c.in-Ok-append.reply) pasts.0) c.place.ensures.pasts in
    let gave : c.given_up_by-self-inside.result ≡ given_up_by (b.last_serial + 1) b.line.pasts.undone b.gave_up =
    c.given_up_by-self-inside.ensures b.line.pasts.undone (ap (λ q. length q.undone) (sym c.place.ensures.pasts) ∙ sym c.undone_count-undone.ensures) in (
      n.boxes,
      n.lasts,
      well_recorded p _ d pasts.0 c.in-Ok-append.reply
          (ap (λ x. x.0) (book_is p d pasts.0 c.in-Ok-append.reply c.note_moment.new.line.pasts c.given_up_by-self-inside.result id make new line gave acts) ∙ ap (λ o. (noted_as p d o).0) acts)
          (new_numbered d id (b.last_ids.prog_id + 1) make new) acts c.self.invariant.2,
    )

pub keep_only-requires-clause-listed : goal.keep_only-requires-clause-listed
keep_only-requires-clause-listed g c κs within =
    let b = c.self.inside in
    let same = c.reserve.ensures in
    let pasts = c.in-Err-append.ensures.pasts.1 ∙ c.place.ensures.pasts in
    subst (λ (x : List ℕ × (List ℕ × Pasts)). ListsPasts x.0 x.1.0 x.1.1) (λ i. (sym same.maps i, (sym same.progs i, sym pasts i)))
    (has_listed b.line.makes b.line.pasts (lasts_of b.ids.base b.ids.lasts.items) b.ids.maps.items b.ids.progs.items c.self.invariant.0)

pub invariant_of-self-in-Err-append : goal.invariant_of-self-in-Err-append
invariant_of-self-in-Err-append g c =
    let b = c.self.inside in
    let same = c.reserve.ensures in
    let u = c.keep_only.ensures in
    let make : Make = make_of (g.K.MapKind.seen c.args.kind) in
    let makes : c.keep_only.new.line.makes ≡ b.line.makes =
    u.boxes ∙ ap (λ xs. map.retain_keys c.append.new.line.makes (is_among xs)) same.maps
    ∙ ap (λ (m : ById Make). map.retain_keys m (is_among b.ids.maps.items)) (c.append.ensures.boxes ∙ c.in-Ok-place.ensures.placed)
    ∙ dropped b.line (lasts_of b.ids.base b.ids.lasts.items) b.ids.maps.items b.ids.progs.items b.last_ids make (record { boxes = c.self.invariant.0; given = c.self.invariant.1 }) in
    let p : PlainBook = record { line = b.line.pasts; gone = b.marks.gone; marks = b.marks.standing; forgotten_marks = b.marks.forgotten; gave_up = b.gave_up; last_serial = b.last_serial; last_map = b.last_ids.map_id; last_prog = b.last_ids.prog_id; limits = b.limits } in
    let pasts = u.pasts ∙ c.in-Err-append.ensures.pasts.1 ∙ c.place.ensures.pasts in
    let maps = u.maps ∙ same.maps in
    let progs = u.progs ∙ same.progs in (
      subst (λ (x : ById Make × (Pasts × (LastIds × (List LastIds × (List ℕ × List ℕ))))). KeepsBoxes x.0 (states_of x.1.0) (lasts_of x.1.1.0 x.1.1.1.0) x.1.1.1.1.0 x.1.1.1.1.1) (λ i. (sym makes i, (sym pasts i, (sym same.base i, (sym same.lasts i, (sym maps i, sym progs i)))))) c.self.invariant.0,
      subst (λ (x : LastIds × List LastIds). Each (IsUpTo b.last_ids) (lasts_of x.0 x.1)) (λ i. (sym same.base i, sym same.lasts i)) c.self.invariant.1,
      well_as p _ _ pasts c.self.invariant.2,
    )

pub returns-in-Ok-append-clause-plain : goal.returns-in-Ok-append-clause-plain
returns-in-Ok-append-clause-plain g c = λ blank is.
    let b = c.self.inside in
    let old = c.place.new.self in
    let serial : ℕ = b.last_serial + 1 in
    let new_id : ℕ = b.last_ids.map_id + 1 in
    let reply = c.in-Ok-append.reply in
    let t : State = c.in-Ok-append.ensures.pasts.0 in
    let d = c.resolved-change.result in
    let p : PlainBook = record { line = b.line.pasts; gone = b.marks.gone; marks = b.marks.standing; forgotten_marks = b.marks.forgotten; gave_up = b.gave_up; last_serial = b.last_serial; last_map = b.last_ids.map_id; last_prog = b.last_ids.prog_id; limits = b.limits } in
    let change : Change = resolved new_id (Some blank) c.args.change in
    let same : d ≡ change = c.resolved-change.ensures blank (ap (λ (m : Make). m.charge) is.make ∙ sym c.charge.ensures) in
    let new : IsNew new_id blank.make change = resolved_new c.args.change new_id blank (subst (λ a. Makes a c.args.change) (sym (ap (λ (m : Make). m.attr) is.make)) c.requires.suits) in
    let acts : act (now b.line.pasts) change ≡ Ok (t, reply) =
    ap (λ q. act (now q) change) (sym c.place.ensures.pasts) ∙ ap (λ x. act (now old.pasts) x) (sym same) ∙ c.in-Ok-append.ensures.pasts.1 in
    let line : c.note_moment.new.line.pasts ≡ appended b.line.pasts (entry_at serial change reply) t =
    c.note_moment.ensures.pasts ∙ c.in-Ok-append.ensures.pasts.2 ∙ ap (λ q. appended q (entry_at serial d reply) t) c.place.ensures.pasts ∙ ap (λ x. appended b.line.pasts (entry_at serial x reply) t) same in
    let gave : c.given_up_by-self-inside.result ≡ given_up_by serial b.line.pasts.undone b.gave_up =
    c.given_up_by-self-inside.ensures b.line.pasts.undone (ap (λ q. length q.undone) (sym c.place.ensures.pasts) ∙ sym c.undone_count-undone.ensures) in
    subst (λ v. OrNoMemory v.plain NoMemory (noted_as v.plain (resolved (v.plain.last_map + 1) (Some blank) c.args.change) (act (now v.plain.line) (resolved (v.plain.last_map + 1) (Some blank) c.args.change)))
    (record p { line = c.note_moment.new.line.pasts; gave_up = c.given_up_by-self-inside.result; last_serial = serial; last_map = new_id }, Ok (serial, reply)))
    c.self.view_is (false, book_is p change t reply c.note_moment.new.line.pasts c.given_up_by-self-inside.result new_id blank.make new line gave acts)

pub returns-in-Err-append-clause-plain : goal.returns-in-Err-append-clause-plain
returns-in-Err-append-clause-plain g c = λ blank is.
    let b = c.self.inside in
    let old = c.place.new.self in
    let new_id : ℕ = b.last_ids.map_id + 1 in
    let d = c.resolved-change.result in
    let p : PlainBook = record { line = b.line.pasts; gone = b.marks.gone; marks = b.marks.standing; forgotten_marks = b.marks.forgotten; gave_up = b.gave_up; last_serial = b.last_serial; last_map = b.last_ids.map_id; last_prog = b.last_ids.prog_id; limits = b.limits } in
    let change : Change = resolved new_id (Some blank) c.args.change in
    let same : d ≡ change = c.resolved-change.ensures blank (ap (λ (m : Make). m.charge) is.make ∙ sym c.charge.ensures) in
    let new : IsNew new_id blank.make change = resolved_new c.args.change new_id blank (subst (λ a. Makes a c.args.change) (sym (ap (λ (m : Make). m.attr) is.make)) c.requires.suits) in
    let line : c.keep_only.new.line.pasts ≡ b.line.pasts = c.keep_only.ensures.pasts ∙ c.in-Err-append.ensures.pasts.1 ∙ c.place.ensures.pasts in
    subst (λ v. OrNoMemory v.plain NoMemory (noted_as v.plain (resolved (v.plain.last_map + 1) (Some blank) c.args.change) (act (now v.plain.line) (resolved (v.plain.last_map + 1) (Some blank) c.args.change)))
    (record p { line = c.keep_only.new.line.pasts }, Err c.in-Err-append.refusal))
    c.self.view_is
    (refused_new p old b.line.makes change blank.make new_id c.in-Err-append.refusal (record p { line = c.keep_only.new.line.pasts })
    (ap (λ q. let r : PlainBook = record p { line = q } in r) line) c.place.ensures.pasts new
    (c.in-Ok-place.ensures.placed ∙ ap (map.insert b.line.makes new_id) (sym is.make))
    (subst (λ x. IsWhy old x c.in-Err-append.refusal) same c.in-Err-append.ensures.pasts.0))

pub returns-in-Ok-append-clause-work : goal.returns-in-Ok-append-clause-work
returns-in-Ok-append-clause-work g c =
    let b = c.self.inside in
    let d = c.resolved-change.result in
    let id : ℕ = b.last_ids.map_id + 1 in
    let make : Make = make_of (g.K.MapKind.seen c.args.kind) in
    let blank : Blank = record { make = make; fresh = true } in
    let new : IsNew id make d = subst (IsNew id make) (sym (c.resolved-change.ensures blank (sym c.charge.ensures))) (resolved_new c.args.change id blank c.requires.suits) in
    let r : Result Reply Refusal = Ok c.in-Ok-append.reply in
    let none : c.append.new.line.work ≡ c.place.new.self.work = new_calls (now c.place.new.self.pasts) id make d r c.place.new.self.work c.append.new.line.work new c.in-Ok-append.ensures.work in
    c.note_moment.ensures.work ∙ none ∙ c.place.ensures.work ∙ ap (λ v. v.work) c.self.view_is

pub returns-in-Err-append-clause-work : goal.returns-in-Err-append-clause-work
returns-in-Err-append-clause-work g c =
    let b = c.self.inside in
    let d = c.resolved-change.result in
    let id : ℕ = b.last_ids.map_id + 1 in
    let make : Make = make_of (g.K.MapKind.seen c.args.kind) in
    let blank : Blank = record { make = make; fresh = true } in
    let new : IsNew id make d = subst (IsNew id make) (sym (c.resolved-change.ensures blank (sym c.charge.ensures))) (resolved_new c.args.change id blank c.requires.suits) in
    let r : Result Reply Refusal = Err c.in-Err-append.refusal in
    let few : CallsAtMost 2 c.place.new.self.work c.append.new.line.work = new_calls (now c.place.new.self.pasts) id make d r c.place.new.self.work c.append.new.line.work new c.in-Err-append.ensures.work in
    subst (λ (k : ℕ). CallsAtMost 2 k c.keep_only.new.line.work) (c.place.ensures.work ∙ ap (λ v. v.work) c.self.view_is)
    (subst (λ (k : ℕ). CallsAtMost 2 c.place.new.self.work k) (sym c.keep_only.ensures.work) few)

pub returns-in-Err-clause-work : goal.returns-in-Err-clause-work
returns-in-Err-clause-work g c = within_none 2 _ _ (ap (λ (v : BookView). v.work) c.self.view_is)

pub returns-in-Err-place-clause-work : goal.returns-in-Err-place-clause-work
returns-in-Err-place-clause-work g c = within_none 2 _ _ (c.place.ensures.work ∙ ap (λ (v : BookView). v.work) c.self.view_is)
