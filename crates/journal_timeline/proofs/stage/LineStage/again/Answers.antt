use Rattle.std.proofs.Common.{◌≡◌, ◌+◌, ◌-◌, ◌<◌, true, refl, sym, ◌∙◌, ap, subst, length, vec_len, get_or, ◌∷◌, arith, drop, reverse, Ok, Err, deque_capacity}
use Rattle.std.specs.FinSet as set
use Rattle.host_state.specs.World.{Ready}
use Rattle.journal_model.specs.Replay.{Entry}
use Rattle.journal_model.specs.Well.{Each}
use Rattle.journal_moments.specs.Recorded.{Recorded}
use Rattle.journal_moments.specs.Line.{entries}
use Rattle.journal_moments.specs.declared.moment.Taking.{Taking}
use Rattle.journal_timeline.specs.Steps.{DoesAgain}
use Rattle.journal_timeline.specs.Staged.{HasBlankIn, HasBoxesLeft, DoesNext, GoesOn}
use Rattle.journal_timeline.specs.StageHeld.{StageHeld, stage_held, staged_of}
use Rattle.journal_timeline.specs.StageCalls.{CallsToGoOn}
use Rattle.journal_timeline.proofs.StageCostLemmas.{again_calls, refused_calls}
use Rattle.journal_moments.proofs.GrownLemmas.{same_grows}
use Rattle.journal_timeline.proofs.RefusedLemmas.{same_blank}
use Rattle.journal_timeline.proofs.StageLemmas.{staged-out, staged-left, staged_is, is_redoing}
use Rattle.journal_timeline.proofs.AgainLemmas.{with_ready, SoundStage-grow, GoesAgain, SoundStage-again, left_next, DoesNext-again, SameStage, SoundStage-same, GoesOn-err, refused_again}
use Rattle.journal_timeline.proofs.stage.LineStage.again.Goals as goal

pub overflow_sub-next : goal.overflow_sub-next
overflow_sub-next g c =
    let i = c.self.inside in
    let a : StageHeld = stage_held i.world i.records.items (deque_capacity i.records) i.pending.value i.short.value i.serial i.out i.passed i.moments.items (deque_capacity i.moments) i.standing i.gone in
    let is_out : i.out ≡ true = sym (staged-out a) ∙ ap (λ s. s.out) c.self.view_is ∙ c.requires.out in
    let n : c.len.result ≡ length i.pending.value.other.items = c.len.ensures ∙ ap (λ (t : Taking). vec_len t.other) c.deref.ensures ∙ i.pending.value.other.ok.0 in
    let some : i.passed < length i.pending.value.other.items = omega (arith, staged-left a, ap (λ s. length s.left) c.self.view_is, c.requires.any) in
    omega (arith, some, n, i.pending.value.other.ok.0)

pub overflow_sub-next-2 : goal.overflow_sub-next-2
overflow_sub-next-2 g c =
    let i = c.self.inside in
    let a : StageHeld = stage_held i.world i.records.items (deque_capacity i.records) i.pending.value i.short.value i.serial i.out i.passed i.moments.items (deque_capacity i.moments) i.standing i.gone in
    let is_out : i.out ≡ true = sym (staged-out a) ∙ ap (λ s. s.out) c.self.view_is ∙ c.requires.out in
    let n : c.len.result ≡ length i.pending.value.other.items = c.len.ensures ∙ ap (λ (t : Taking). vec_len t.other) c.deref.ensures ∙ i.pending.value.other.ok.0 in
    let some : i.passed < length i.pending.value.other.items = omega (arith, staged-left a, ap (λ s. length s.left) c.self.view_is, c.requires.any) in
    omega (arith, some, n, i.pending.value.other.ok.0)

pub index-requires : goal.index-requires
index-requires g c =
    let i = c.self.inside in
    let a : StageHeld = stage_held i.world i.records.items (deque_capacity i.records) i.pending.value i.short.value i.serial i.out i.passed i.moments.items (deque_capacity i.moments) i.standing i.gone in
    let is_out : i.out ≡ true = sym (staged-out a) ∙ ap (λ s. s.out) c.self.view_is ∙ c.requires.out in
    let n : c.len.result ≡ length i.pending.value.other.items = c.len.ensures ∙ ap (λ (t : Taking). vec_len t.other) c.deref.ensures ∙ i.pending.value.other.ok.0 in
    let some : i.passed < length i.pending.value.other.items = omega (arith, staged-left a, ap (λ s. length s.left) c.self.view_is, c.requires.any) in
    omega (arith, some, n, i.pending.value.other.ok.0, ap (λ (t : Taking). vec_len t.other) c.deref-2.ensures)

pub reapply-requires-clause-has_box : goal.reapply-requires-clause-has_box
reapply-requires-clause-has_box g c κs within =
    let i = c.self.inside in
    let a : StageHeld = stage_held i.world i.records.items (deque_capacity i.records) i.pending.value i.short.value i.serial i.out i.passed i.moments.items (deque_capacity i.moments) i.standing i.gone in
    let is_out : i.out ≡ true = sym (staged-out a) ∙ ap (λ s. s.out) c.self.view_is ∙ c.requires.out in
    let n : c.len.result ≡ length i.pending.value.other.items = c.len.ensures ∙ ap (λ (t : Taking). vec_len t.other) c.deref.ensures ∙ i.pending.value.other.ok.0 in
    let some : i.passed < length i.pending.value.other.items = omega (arith, staged-left a, ap (λ s. length s.left) c.self.view_is, c.requires.any) in
    let old : Recorded = c.index.result.now in
    let read : old ≡ get_or i.pending.value.other.items (length i.pending.value.other.items - 1 - i.passed) old = c.index.ensures ∙ ap (λ (t : Taking). get_or t.other.items (c.len.result - 1 - i.passed) old) c.deref-2.ensures ∙ ap (λ k. get_or i.pending.value.other.items (k - 1 - i.passed) old) n in
    let boxes : Each (λ (e : Entry). HasBlankIn i.world.ready.makes e.change) (entries (drop i.passed (reverse i.pending.value.other.items))) =
    subst (λ s. HasBoxesLeft s) (staged_is a) (subst (λ s. HasBoxesLeft s) (sym c.self.view_is) c.requires.boxes) in
    let first : Each (λ (e : Entry). HasBlankIn i.world.ready.makes e.change) (old.entry ∷ entries (drop (i.passed + 1) (reverse i.pending.value.other.items))) =
    subst (Each (λ (e : Entry). HasBlankIn i.world.ready.makes e.change)) (left_next a old some read) boxes in
    same_blank (record { makes = i.world.ready.makes; progs = set.empty; room = set.empty }) i.world.ready old.entry.change refl first.0

pub reapply-requires-clause-room : goal.reapply-requires-clause-room
reapply-requires-clause-room g c κs within =
    let i = c.self.inside in
    let a : StageHeld = stage_held i.world i.records.items (deque_capacity i.records) i.pending.value i.short.value i.serial i.out i.passed i.moments.items (deque_capacity i.moments) i.standing i.gone in
    let is_out : i.out ≡ true = sym (staged-out a) ∙ ap (λ s. s.out) c.self.view_is ∙ c.requires.out in
    let n : c.len.result ≡ length i.pending.value.other.items = c.len.ensures ∙ ap (λ (t : Taking). vec_len t.other) c.deref.ensures ∙ i.pending.value.other.ok.0 in
    let some : i.passed < length i.pending.value.other.items = omega (arith, staged-left a, ap (λ s. length s.left) c.self.view_is, c.requires.any) in
    omega (arith, some, (is_redoing a c.self.invariant is_out).at, c.self.invariant.can.room_forth, i.records.ok.0)

pub invariant_of-self : goal.invariant_of-self
invariant_of-self g c =
    let i = c.self.inside in
    let a : StageHeld = stage_held i.world i.records.items (deque_capacity i.records) i.pending.value i.short.value i.serial i.out i.passed i.moments.items (deque_capacity i.moments) i.standing i.gone in
    let is_out : i.out ≡ true = sym (staged-out a) ∙ ap (λ s. s.out) c.self.view_is ∙ c.requires.out in
    let n : c.len.result ≡ length i.pending.value.other.items = c.len.ensures ∙ ap (λ (t : Taking). vec_len t.other) c.deref.ensures ∙ i.pending.value.other.ok.0 in
    let some : i.passed < length i.pending.value.other.items = omega (arith, staged-left a, ap (λ s. length s.left) c.self.view_is, c.requires.any) in
    let old : Recorded = c.index.result.now in
    let read : old ≡ get_or i.pending.value.other.items (length i.pending.value.other.items - 1 - i.passed) old = c.index.ensures ∙ ap (λ (t : Taking). get_or t.other.items (c.len.result - 1 - i.passed) old) c.deref-2.ensures ∙ ap (λ k. get_or i.pending.value.other.items (k - 1 - i.passed) old) n in
    let ready : Ready = c.reapply.new.world.ready in
    let whole : StageHeld = with_ready a ready in
    let b : StageHeld = stage_held c.reapply.new.world c.reapply.new.records.items (deque_capacity c.reapply.new.records) i.pending.value i.short.value i.serial i.out (i.passed + 1) i.moments.items (deque_capacity i.moments) i.standing i.gone in
    let h : DoesAgain i.world i.records.items old.entry (Ok c.in-Ok.field-0) c.reapply.new.world c.reapply.new.records.items = c.in-Ok.ensures.again in
    let goes : GoesAgain whole b old h.0 = record {
      is_out = is_out;
      some = some;
      read = read;
      entry = h.1;
      acts = h.3.acts;
      own = h.3.own;
      bytes = h.3.bytes;
      joins = h.3.joins;
      retires = h.3.retires;
      ready = refl;
      records = h.2;
      room = c.reapply.ensures.kept;
      fits = omega (arith, c.reapply.new.records.ok.0, c.reapply.new.records.ok.1);
      pending = refl;
      spare = refl;
      serial = refl;
      out = refl;
      passed = refl;
      moments = refl;
      moments_room = refl;
      undone = refl;
      standing = refl;
    } in
    let sound = SoundStage-grow a ready (same_grows i.world.ready ready h.3.boxes) c.self.invariant is_out in
    SoundStage-again whole b old h.0 sound goes

pub invariant_of-self-in-Err : goal.invariant_of-self-in-Err
invariant_of-self-in-Err g c =
    let i = c.self.inside in
    let a : StageHeld = stage_held i.world i.records.items (deque_capacity i.records) i.pending.value i.short.value i.serial i.out i.passed i.moments.items (deque_capacity i.moments) i.standing i.gone in
    let is_out : i.out ≡ true = sym (staged-out a) ∙ ap (λ s. s.out) c.self.view_is ∙ c.requires.out in
    let n : c.len.result ≡ length i.pending.value.other.items = c.len.ensures ∙ ap (λ (t : Taking). vec_len t.other) c.deref.ensures ∙ i.pending.value.other.ok.0 in
    let some : i.passed < length i.pending.value.other.items = omega (arith, staged-left a, ap (λ s. length s.left) c.self.view_is, c.requires.any) in
    let old : Recorded = c.index.result.now in
    let read : old ≡ get_or i.pending.value.other.items (length i.pending.value.other.items - 1 - i.passed) old = c.index.ensures ∙ ap (λ (t : Taking). get_or t.other.items (c.len.result - 1 - i.passed) old) c.deref-2.ensures ∙ ap (λ k. get_or i.pending.value.other.items (k - 1 - i.passed) old) n in
    let ready : Ready = c.reapply.new.world.ready in
    let whole : StageHeld = with_ready a ready in
    let b : StageHeld = stage_held c.reapply.new.world c.reapply.new.records.items (deque_capacity c.reapply.new.records) i.pending.value i.short.value i.serial i.out i.passed i.moments.items (deque_capacity i.moments) i.standing i.gone in
    let f = refused_again i.world c.reapply.new.world i.records.items c.reapply.new.records.items old.entry c.in-Err.fault c.in-Err.ensures.again in
    let same : SameStage whole b = record { state = f.1.state; ready = refl; records = f.2; room = c.reapply.ensures.kept; pending = refl; spare = refl; serial = refl; out = refl; passed = refl; moments = refl; moments_room = refl; undone = refl; standing = refl } in
    let sound = SoundStage-grow a ready (same_grows i.world.ready ready f.1.boxes) c.self.invariant is_out in
    SoundStage-same whole b sound same is_out

pub returns-in-Ok-clause-goes_on : goal.returns-in-Ok-clause-goes_on
returns-in-Ok-clause-goes_on g c =
    let i = c.self.inside in
    let a : StageHeld = stage_held i.world i.records.items (deque_capacity i.records) i.pending.value i.short.value i.serial i.out i.passed i.moments.items (deque_capacity i.moments) i.standing i.gone in
    let is_out : i.out ≡ true = sym (staged-out a) ∙ ap (λ s. s.out) c.self.view_is ∙ c.requires.out in
    let n : c.len.result ≡ length i.pending.value.other.items = c.len.ensures ∙ ap (λ (t : Taking). vec_len t.other) c.deref.ensures ∙ i.pending.value.other.ok.0 in
    let some : i.passed < length i.pending.value.other.items = omega (arith, staged-left a, ap (λ s. length s.left) c.self.view_is, c.requires.any) in
    let old : Recorded = c.index.result.now in
    let read : old ≡ get_or i.pending.value.other.items (length i.pending.value.other.items - 1 - i.passed) old = c.index.ensures ∙ ap (λ (t : Taking). get_or t.other.items (c.len.result - 1 - i.passed) old) c.deref-2.ensures ∙ ap (λ k. get_or i.pending.value.other.items (k - 1 - i.passed) old) n in
    let ready : Ready = c.reapply.new.world.ready in
    let whole : StageHeld = with_ready a ready in
    let b : StageHeld = stage_held c.reapply.new.world c.reapply.new.records.items (deque_capacity c.reapply.new.records) i.pending.value i.short.value i.serial i.out (i.passed + 1) i.moments.items (deque_capacity i.moments) i.standing i.gone in
    let h : DoesAgain i.world i.records.items old.entry (Ok c.in-Ok.field-0) c.reapply.new.world c.reapply.new.records.items = c.in-Ok.ensures.again in
    let goes : GoesAgain whole b old h.0 = record {
      is_out = is_out;
      some = some;
      read = read;
      entry = h.1;
      acts = h.3.acts;
      own = h.3.own;
      bytes = h.3.bytes;
      joins = h.3.joins;
      retires = h.3.retires;
      ready = refl;
      records = h.2;
      room = c.reapply.ensures.kept;
      fits = omega (arith, c.reapply.new.records.ok.0, c.reapply.new.records.ok.1);
      pending = refl;
      spare = refl;
      serial = refl;
      out = refl;
      passed = refl;
      moments = refl;
      moments_room = refl;
      undone = refl;
      standing = refl;
    } in
    let sound = SoundStage-grow a ready (same_grows i.world.ready ready h.3.boxes) c.self.invariant is_out in
    subst (λ s. DoesNext s (staged_of b)) c.self.view_is (DoesNext-again a ready b old h.0 sound goes h.3.boxes.makes h.4)

pub returns-in-Err-clause-goes_on : goal.returns-in-Err-clause-goes_on
returns-in-Err-clause-goes_on g c =
    let i = c.self.inside in
    let a : StageHeld = stage_held i.world i.records.items (deque_capacity i.records) i.pending.value i.short.value i.serial i.out i.passed i.moments.items (deque_capacity i.moments) i.standing i.gone in
    let is_out : i.out ≡ true = sym (staged-out a) ∙ ap (λ s. s.out) c.self.view_is ∙ c.requires.out in
    let n : c.len.result ≡ length i.pending.value.other.items = c.len.ensures ∙ ap (λ (t : Taking). vec_len t.other) c.deref.ensures ∙ i.pending.value.other.ok.0 in
    let some : i.passed < length i.pending.value.other.items = omega (arith, staged-left a, ap (λ s. length s.left) c.self.view_is, c.requires.any) in
    let old : Recorded = c.index.result.now in
    let read : old ≡ get_or i.pending.value.other.items (length i.pending.value.other.items - 1 - i.passed) old = c.index.ensures ∙ ap (λ (t : Taking). get_or t.other.items (c.len.result - 1 - i.passed) old) c.deref-2.ensures ∙ ap (λ k. get_or i.pending.value.other.items (k - 1 - i.passed) old) n in
    let ready : Ready = c.reapply.new.world.ready in
    let whole : StageHeld = with_ready a ready in
    let b : StageHeld = stage_held c.reapply.new.world c.reapply.new.records.items (deque_capacity c.reapply.new.records) i.pending.value i.short.value i.serial i.out i.passed i.moments.items (deque_capacity i.moments) i.standing i.gone in
    let f = refused_again i.world c.reapply.new.world i.records.items c.reapply.new.records.items old.entry c.in-Err.fault c.in-Err.ensures.again in
    let same : SameStage whole b = record { state = f.1.state; ready = refl; records = f.2; room = c.reapply.ensures.kept; pending = refl; spare = refl; serial = refl; out = refl; passed = refl; moments = refl; moments_room = refl; undone = refl; standing = refl } in
    let sound = SoundStage-grow a ready (same_grows i.world.ready ready f.1.boxes) c.self.invariant is_out in
    subst (λ s. GoesOn s (Err c.in-Err.fault) (staged_of b)) c.self.view_is (GoesOn-err a ready b old c.in-Err.fault sound same f.1.boxes.makes some read f.0)

pub returns-in-Ok-clause-work : goal.returns-in-Ok-clause-work
returns-in-Ok-clause-work g c =
    let i = c.self.inside in
    let a : StageHeld = stage_held i.world i.records.items (deque_capacity i.records) i.pending.value i.short.value i.serial i.out i.passed i.moments.items (deque_capacity i.moments) i.standing i.gone in
    let is_out : i.out ≡ true = sym (staged-out a) ∙ ap (λ s. s.out) c.self.view_is ∙ c.requires.out in
    let n : c.len.result ≡ length i.pending.value.other.items = c.len.ensures ∙ ap (λ (t : Taking). vec_len t.other) c.deref.ensures ∙ i.pending.value.other.ok.0 in
    let some : i.passed < length i.pending.value.other.items = omega (arith, staged-left a, ap (λ s. length s.left) c.self.view_is, c.requires.any) in
    let old : Recorded = c.index.result.now in
    let read : old ≡ get_or i.pending.value.other.items (length i.pending.value.other.items - 1 - i.passed) old = c.index.ensures ∙ ap (λ (t : Taking). get_or t.other.items (c.len.result - 1 - i.passed) old) c.deref-2.ensures ∙ ap (λ k. get_or i.pending.value.other.items (k - 1 - i.passed) old) n in
    let ready : Ready = c.reapply.new.world.ready in
    let whole : StageHeld = with_ready a ready in
    let b : StageHeld = stage_held c.reapply.new.world c.reapply.new.records.items (deque_capacity c.reapply.new.records) i.pending.value i.short.value i.serial i.out (i.passed + 1) i.moments.items (deque_capacity i.moments) i.standing i.gone in
    let h : DoesAgain i.world i.records.items old.entry (Ok c.in-Ok.field-0) c.reapply.new.world c.reapply.new.records.items = c.in-Ok.ensures.again in
    let goes : GoesAgain whole b old h.0 = record {
      is_out = is_out;
      some = some;
      read = read;
      entry = h.1;
      acts = h.3.acts;
      own = h.3.own;
      bytes = h.3.bytes;
      joins = h.3.joins;
      retires = h.3.retires;
      ready = refl;
      records = h.2;
      room = c.reapply.ensures.kept;
      fits = omega (arith, c.reapply.new.records.ok.0, c.reapply.new.records.ok.1);
      pending = refl;
      spare = refl;
      serial = refl;
      out = refl;
      passed = refl;
      moments = refl;
      moments_room = refl;
      undone = refl;
      standing = refl;
    } in
    let sound = SoundStage-grow a ready (same_grows i.world.ready ready h.3.boxes) c.self.invariant is_out in
    subst (λ s. CallsToGoOn s (Ok c.in-Ok.field-0) (staged_of b)) c.self.view_is (again_calls a ready b old h.0 c.in-Ok.field-0 sound goes c.in-Ok.ensures.work)

pub returns-in-Err-clause-work : goal.returns-in-Err-clause-work
returns-in-Err-clause-work g c =
    let i = c.self.inside in
    let a : StageHeld = stage_held i.world i.records.items (deque_capacity i.records) i.pending.value i.short.value i.serial i.out i.passed i.moments.items (deque_capacity i.moments) i.standing i.gone in
    let is_out : i.out ≡ true = sym (staged-out a) ∙ ap (λ s. s.out) c.self.view_is ∙ c.requires.out in
    let n : c.len.result ≡ length i.pending.value.other.items = c.len.ensures ∙ ap (λ (t : Taking). vec_len t.other) c.deref.ensures ∙ i.pending.value.other.ok.0 in
    let some : i.passed < length i.pending.value.other.items = omega (arith, staged-left a, ap (λ s. length s.left) c.self.view_is, c.requires.any) in
    let old : Recorded = c.index.result.now in
    let read : old ≡ get_or i.pending.value.other.items (length i.pending.value.other.items - 1 - i.passed) old = c.index.ensures ∙ ap (λ (t : Taking). get_or t.other.items (c.len.result - 1 - i.passed) old) c.deref-2.ensures ∙ ap (λ k. get_or i.pending.value.other.items (k - 1 - i.passed) old) n in
    let ready : Ready = c.reapply.new.world.ready in
    let whole : StageHeld = with_ready a ready in
    let b : StageHeld = stage_held c.reapply.new.world c.reapply.new.records.items (deque_capacity c.reapply.new.records) i.pending.value i.short.value i.serial i.out i.passed i.moments.items (deque_capacity i.moments) i.standing i.gone in
    let f = refused_again i.world c.reapply.new.world i.records.items c.reapply.new.records.items old.entry c.in-Err.fault c.in-Err.ensures.again in
    let same : SameStage whole b = record { state = f.1.state; ready = refl; records = f.2; room = c.reapply.ensures.kept; pending = refl; spare = refl; serial = refl; out = refl; passed = refl; moments = refl; moments_room = refl; undone = refl; standing = refl } in
    subst (λ s. CallsToGoOn s (Err c.in-Err.fault) (staged_of b)) c.self.view_is (refused_calls a ready b old c.in-Err.fault same some read c.in-Err.ensures.work)
