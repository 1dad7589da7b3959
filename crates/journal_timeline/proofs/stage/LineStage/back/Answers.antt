use Rattle.std.proofs.Common.{◌≡◌, ◌-◌, true, false, Some, refl, sym, ◌∙◌, ap, subst, length, vec_len, vec_capacity, get_or, List, ◌++◌, arith, drop, take, reverse, deque_capacity}
use Rattle.std.proofs.lemmas.Bool.Decides.{nat_tests}
use Rattle.host_state.specs.State.{State}
use Rattle.journal_moments.specs.Recorded.{Recorded}
use Rattle.journal_moments.specs.Line.{laid, foot}
use Rattle.host_state.specs.Work.{CallsAtMost}
use Rattle.host_state.proofs.CallLemmas.{within_more}
use Rattle.journal_timeline.specs.Staged.{TurnsBack}
use Rattle.journal_timeline.specs.StageCalls.{CallsToTurn}
use Rattle.journal_timeline.proofs.StageCostLemmas.{turn_calls}
use Rattle.journal_timeline.specs.StageHeld.{StageHeld, stage_held, staged_of}
use Rattle.journal_moments.specs.declared.moment.Taking.{Taking}
use Rattle.journal_moments.proofs.LineLemmas.{leads_past}
use Rattle.journal_timeline.proofs.StageLemmas.{LaysOne, staged-out, staged-in_place, is_turning, SoundStage-back, Turning-back, Redoing-back, TurnsBack-back, phase_false}
use Rattle.journal_timeline.proofs.stage.LineStage.back.Goals as goal

pub overflow_sub-at : goal.overflow_sub-at
overflow_sub-at g c =
    let i = c.self.inside in
    let a : StageHeld = stage_held i.world i.records.items (deque_capacity i.records) i.pending.value i.short.value i.serial i.out i.passed i.moments.items (deque_capacity i.moments) i.standing i.gone in
    omega (arith, staged-in_place a, ap (λ s. length s.in_place) c.self.view_is, c.requires.any, c.len-at.ensures, i.records.ok.0)

pub index-requires : goal.index-requires
index-requires g c =
    let i = c.self.inside in
    let a : StageHeld = stage_held i.world i.records.items (deque_capacity i.records) i.pending.value i.short.value i.serial i.out i.passed i.moments.items (deque_capacity i.moments) i.standing i.gone in
    omega (arith, staged-in_place a, ap (λ s. length s.in_place) c.self.view_is, c.requires.any, c.len-at.ensures, i.records.ok.0)

pub lay_down-requires-clause-leads : goal.lay_down-requires-clause-leads
lay_down-requires-clause-leads g c κs within = leads_past _ _ _ _ (c.len-at.result - 1) c.self.invariant.leads

pub lay_down-requires-clause-room : goal.lay_down-requires-clause-room
lay_down-requires-clause-room g c κs within =
    let i = c.self.inside in
    let a : StageHeld = stage_held i.world i.records.items (deque_capacity i.records) i.pending.value i.short.value i.serial i.out i.passed i.moments.items (deque_capacity i.moments) i.standing i.gone in
    let not_out : i.out ≡ false = sym (staged-out a) ∙ ap (λ s. s.out) c.self.view_is ∙ c.requires.not_out in
    omega (arith, (is_turning a c.self.invariant not_out).room_other, staged-in_place a, ap (λ s. length s.in_place) c.self.view_is, c.requires.any, c.len-at.ensures, i.records.ok.0, i.pending.value.other.ok.0, ap (λ (t : Taking). vec_len t.other) c.deref_mut.ensures.value, ap (λ (t : Taking). vec_capacity t.other) c.deref_mut.ensures.value)

pub invariant_of-self : goal.invariant_of-self
invariant_of-self g c =
    let i = c.self.inside in
    let a : StageHeld = stage_held i.world i.records.items (deque_capacity i.records) i.pending.value i.short.value i.serial i.out i.passed i.moments.items (deque_capacity i.moments) i.standing i.gone in
    let d : Taking = c.deref_mut-2.result.now in
    let m : Taking = record { serial = d.serial; out = d.out; at = c.len-at.result - 1; stays = d.stays; other = d.other; spare = d.spare } in
    let b : StageHeld = stage_held c.lay_down.new.world c.lay_down.new.records.items (deque_capacity c.lay_down.new.records) m i.short.value i.serial true 1 i.moments.items (deque_capacity i.moments) i.standing i.gone in
    let rs : List Recorded = a.records in
    let w : State = a.world.state in
    let n : c.len-at.result ≡ length rs = c.len-at.ensures ∙ i.records.ok.0 in
    let r : Recorded = c.index.result.now in
    let not_out : i.out ≡ false = sym (staged-out a) ∙ ap (λ s. s.out) c.self.view_is ∙ c.requires.not_out in
    let laid_one : LaysOne a b r = record {
      some = omega (arith, staged-in_place a, ap (λ s. length s.in_place) c.self.view_is, c.requires.any);
      not_out = not_out;
      at = ap (λ k. k - 1) n;
      stays = ap (λ (t : Taking). t.stays) c.deref_mut-2.ensures.value ∙ ap (λ (t : Taking). t.stays) c.deref_mut.ensures.value;
      short = refl;
      short_spare = refl;
      state = c.lay_down.ensures.state ∙ ap (λ k. foot w (drop (k - 1) rs)) n;
      ready = c.lay_down.ensures.ready;
      records = c.lay_down.ensures.records ∙ ap (λ k. take (k - 1) rs) n;
      other = ap (λ (t : Taking). t.other.items) c.deref_mut-2.ensures.value ∙ c.lay_down.ensures.into ∙ ap (λ (t : Taking). t.other.items ++ reverse (laid (foot w (drop (c.len-at.result - 1) rs)) (drop (c.len-at.result - 1) rs))) c.deref_mut.ensures.value ∙ ap (λ k. i.pending.value.other.items ++ reverse (laid (foot w (drop (k - 1) rs)) (drop (k - 1) rs))) n;
      spare = ap (λ (t : Taking). t.spare.items) c.deref_mut-2.ensures.value ∙ ap (λ (t : Taking). t.spare.items) c.deref_mut.ensures.value;
      pending_room = ap (λ (t : Taking). vec_capacity t.spare) c.deref_mut-2.ensures.value ∙ ap (λ (t : Taking). vec_capacity t.spare) c.deref_mut.ensures.value;
      other_room = omega (arith, ap (λ (t : Taking). vec_capacity t.other) c.deref_mut-2.ensures.value, c.lay_down.ensures.into_kept, ap (λ (t : Taking). vec_capacity t.other) c.deref_mut.ensures.value);
      room = c.lay_down.ensures.kept;
      moments = refl;
      moments_room = refl;
      undone = refl;
      standing = refl;
      serial = refl;
      out = ap (λ (t : Taking). Some t.out) c.deref_mut-2.ensures.value ∙ ap (λ (t : Taking). Some t.out) c.deref_mut.ensures.value;
      read = c.index.ensures ∙ ap (λ k. get_or rs (k - 1) r) n;
    } in
    SoundStage-back a b r c.self.invariant laid_one (Redoing-back a b r c.self.invariant laid_one refl)

pub invariant_of-self-else-serial-self : goal.invariant_of-self-else-serial-self
invariant_of-self-else-serial-self g c =
    let i = c.self.inside in
    let a : StageHeld = stage_held i.world i.records.items (deque_capacity i.records) i.pending.value i.short.value i.serial i.out i.passed i.moments.items (deque_capacity i.moments) i.standing i.gone in
    let d : Taking = c.deref_mut-2.result.now in
    let m : Taking = record { serial = d.serial; out = d.out; at = c.len-at.result - 1; stays = d.stays; other = d.other; spare = d.spare } in
    let b : StageHeld = stage_held c.lay_down.new.world c.lay_down.new.records.items (deque_capacity c.lay_down.new.records) m i.short.value i.serial i.out i.passed i.moments.items (deque_capacity i.moments) i.standing i.gone in
    let rs : List Recorded = a.records in
    let w : State = a.world.state in
    let n : c.len-at.result ≡ length rs = c.len-at.ensures ∙ i.records.ok.0 in
    let r : Recorded = c.index.result.now in
    let not_out : i.out ≡ false = sym (staged-out a) ∙ ap (λ s. s.out) c.self.view_is ∙ c.requires.not_out in
    let laid_one : LaysOne a b r = record {
      some = omega (arith, staged-in_place a, ap (λ s. length s.in_place) c.self.view_is, c.requires.any);
      not_out = not_out;
      at = ap (λ k. k - 1) n;
      stays = ap (λ (t : Taking). t.stays) c.deref_mut-2.ensures.value ∙ ap (λ (t : Taking). t.stays) c.deref_mut.ensures.value;
      short = refl;
      short_spare = refl;
      state = c.lay_down.ensures.state ∙ ap (λ k. foot w (drop (k - 1) rs)) n;
      ready = c.lay_down.ensures.ready;
      records = c.lay_down.ensures.records ∙ ap (λ k. take (k - 1) rs) n;
      other = ap (λ (t : Taking). t.other.items) c.deref_mut-2.ensures.value ∙ c.lay_down.ensures.into ∙ ap (λ (t : Taking). t.other.items ++ reverse (laid (foot w (drop (c.len-at.result - 1) rs)) (drop (c.len-at.result - 1) rs))) c.deref_mut.ensures.value ∙ ap (λ k. i.pending.value.other.items ++ reverse (laid (foot w (drop (k - 1) rs)) (drop (k - 1) rs))) n;
      spare = ap (λ (t : Taking). t.spare.items) c.deref_mut-2.ensures.value ∙ ap (λ (t : Taking). t.spare.items) c.deref_mut.ensures.value;
      pending_room = ap (λ (t : Taking). vec_capacity t.spare) c.deref_mut-2.ensures.value ∙ ap (λ (t : Taking). vec_capacity t.spare) c.deref_mut.ensures.value;
      other_room = omega (arith, ap (λ (t : Taking). vec_capacity t.other) c.deref_mut-2.ensures.value, c.lay_down.ensures.into_kept, ap (λ (t : Taking). vec_capacity t.other) c.deref_mut.ensures.value);
      room = c.lay_down.ensures.kept;
      moments = refl;
      moments_room = refl;
      undone = refl;
      standing = refl;
      serial = refl;
      out = ap (λ (t : Taking). Some t.out) c.deref_mut-2.ensures.value ∙ ap (λ (t : Taking). Some t.out) c.deref_mut.ensures.value;
      read = c.index.ensures ∙ ap (λ k. get_or rs (k - 1) r) n;
    } in
    SoundStage-back a b r c.self.invariant laid_one (phase_false i.out b not_out (Turning-back a b r c.self.invariant laid_one refl))

pub returns-then-serial-self-clause-turns : goal.returns-then-serial-self-clause-turns
returns-then-serial-self-clause-turns g c =
    let i = c.self.inside in
    let a : StageHeld = stage_held i.world i.records.items (deque_capacity i.records) i.pending.value i.short.value i.serial i.out i.passed i.moments.items (deque_capacity i.moments) i.standing i.gone in
    let d : Taking = c.deref_mut-2.result.now in
    let m : Taking = record { serial = d.serial; out = d.out; at = c.len-at.result - 1; stays = d.stays; other = d.other; spare = d.spare } in
    let b : StageHeld = stage_held c.lay_down.new.world c.lay_down.new.records.items (deque_capacity c.lay_down.new.records) m i.short.value i.serial true 1 i.moments.items (deque_capacity i.moments) i.standing i.gone in
    let rs : List Recorded = a.records in
    let w : State = a.world.state in
    let n : c.len-at.result ≡ length rs = c.len-at.ensures ∙ i.records.ok.0 in
    let r : Recorded = c.index.result.now in
    let not_out : i.out ≡ false = sym (staged-out a) ∙ ap (λ s. s.out) c.self.view_is ∙ c.requires.not_out in
    let laid_one : LaysOne a b r = record {
      some = omega (arith, staged-in_place a, ap (λ s. length s.in_place) c.self.view_is, c.requires.any);
      not_out = not_out;
      at = ap (λ k. k - 1) n;
      stays = ap (λ (t : Taking). t.stays) c.deref_mut-2.ensures.value ∙ ap (λ (t : Taking). t.stays) c.deref_mut.ensures.value;
      short = refl;
      short_spare = refl;
      state = c.lay_down.ensures.state ∙ ap (λ k. foot w (drop (k - 1) rs)) n;
      ready = c.lay_down.ensures.ready;
      records = c.lay_down.ensures.records ∙ ap (λ k. take (k - 1) rs) n;
      other = ap (λ (t : Taking). t.other.items) c.deref_mut-2.ensures.value ∙ c.lay_down.ensures.into ∙ ap (λ (t : Taking). t.other.items ++ reverse (laid (foot w (drop (c.len-at.result - 1) rs)) (drop (c.len-at.result - 1) rs))) c.deref_mut.ensures.value ∙ ap (λ k. i.pending.value.other.items ++ reverse (laid (foot w (drop (k - 1) rs)) (drop (k - 1) rs))) n;
      spare = ap (λ (t : Taking). t.spare.items) c.deref_mut-2.ensures.value ∙ ap (λ (t : Taking). t.spare.items) c.deref_mut.ensures.value;
      pending_room = ap (λ (t : Taking). vec_capacity t.spare) c.deref_mut-2.ensures.value ∙ ap (λ (t : Taking). vec_capacity t.spare) c.deref_mut.ensures.value;
      other_room = omega (arith, ap (λ (t : Taking). vec_capacity t.other) c.deref_mut-2.ensures.value, c.lay_down.ensures.into_kept, ap (λ (t : Taking). vec_capacity t.other) c.deref_mut.ensures.value);
      room = c.lay_down.ensures.kept;
      moments = refl;
      moments_room = refl;
      undone = refl;
      standing = refl;
      serial = refl;
      out = ap (λ (t : Taking). Some t.out) c.deref_mut-2.ensures.value ∙ ap (λ (t : Taking). Some t.out) c.deref_mut.ensures.value;
      read = c.index.ensures ∙ ap (λ k. get_or rs (k - 1) r) n;
    } in
    subst (λ s. TurnsBack s true (staged_of b)) c.self.view_is (TurnsBack-back a b r c.self.invariant laid_one true refl (grind (arith, nat_tests)) refl)

pub returns-else-serial-self-clause-turns : goal.returns-else-serial-self-clause-turns
returns-else-serial-self-clause-turns g c =
    let i = c.self.inside in
    let a : StageHeld = stage_held i.world i.records.items (deque_capacity i.records) i.pending.value i.short.value i.serial i.out i.passed i.moments.items (deque_capacity i.moments) i.standing i.gone in
    let d : Taking = c.deref_mut-2.result.now in
    let m : Taking = record { serial = d.serial; out = d.out; at = c.len-at.result - 1; stays = d.stays; other = d.other; spare = d.spare } in
    let b : StageHeld = stage_held c.lay_down.new.world c.lay_down.new.records.items (deque_capacity c.lay_down.new.records) m i.short.value i.serial i.out i.passed i.moments.items (deque_capacity i.moments) i.standing i.gone in
    let rs : List Recorded = a.records in
    let w : State = a.world.state in
    let n : c.len-at.result ≡ length rs = c.len-at.ensures ∙ i.records.ok.0 in
    let r : Recorded = c.index.result.now in
    let not_out : i.out ≡ false = sym (staged-out a) ∙ ap (λ s. s.out) c.self.view_is ∙ c.requires.not_out in
    let laid_one : LaysOne a b r = record {
      some = omega (arith, staged-in_place a, ap (λ s. length s.in_place) c.self.view_is, c.requires.any);
      not_out = not_out;
      at = ap (λ k. k - 1) n;
      stays = ap (λ (t : Taking). t.stays) c.deref_mut-2.ensures.value ∙ ap (λ (t : Taking). t.stays) c.deref_mut.ensures.value;
      short = refl;
      short_spare = refl;
      state = c.lay_down.ensures.state ∙ ap (λ k. foot w (drop (k - 1) rs)) n;
      ready = c.lay_down.ensures.ready;
      records = c.lay_down.ensures.records ∙ ap (λ k. take (k - 1) rs) n;
      other = ap (λ (t : Taking). t.other.items) c.deref_mut-2.ensures.value ∙ c.lay_down.ensures.into ∙ ap (λ (t : Taking). t.other.items ++ reverse (laid (foot w (drop (c.len-at.result - 1) rs)) (drop (c.len-at.result - 1) rs))) c.deref_mut.ensures.value ∙ ap (λ k. i.pending.value.other.items ++ reverse (laid (foot w (drop (k - 1) rs)) (drop (k - 1) rs))) n;
      spare = ap (λ (t : Taking). t.spare.items) c.deref_mut-2.ensures.value ∙ ap (λ (t : Taking). t.spare.items) c.deref_mut.ensures.value;
      pending_room = ap (λ (t : Taking). vec_capacity t.spare) c.deref_mut-2.ensures.value ∙ ap (λ (t : Taking). vec_capacity t.spare) c.deref_mut.ensures.value;
      other_room = omega (arith, ap (λ (t : Taking). vec_capacity t.other) c.deref_mut-2.ensures.value, c.lay_down.ensures.into_kept, ap (λ (t : Taking). vec_capacity t.other) c.deref_mut.ensures.value);
      room = c.lay_down.ensures.kept;
      moments = refl;
      moments_room = refl;
      undone = refl;
      standing = refl;
      serial = refl;
      out = ap (λ (t : Taking). Some t.out) c.deref_mut-2.ensures.value ∙ ap (λ (t : Taking). Some t.out) c.deref_mut.ensures.value;
      read = c.index.ensures ∙ ap (λ k. get_or rs (k - 1) r) n;
    } in
    subst (λ s. TurnsBack s false (staged_of b)) c.self.view_is (TurnsBack-back a b r c.self.invariant laid_one false not_out (grind (arith, nat_tests)) (is_turning a c.self.invariant not_out).passed)

pub returns-then-serial-self-clause-work : goal.returns-then-serial-self-clause-work
returns-then-serial-self-clause-work g c =
    let i = c.self.inside in
    let a : StageHeld = stage_held i.world i.records.items (deque_capacity i.records) i.pending.value i.short.value i.serial i.out i.passed i.moments.items (deque_capacity i.moments) i.standing i.gone in
    let d : Taking = c.deref_mut-2.result.now in
    let m : Taking = record { serial = d.serial; out = d.out; at = c.len-at.result - 1; stays = d.stays; other = d.other; spare = d.spare } in
    let b : StageHeld = stage_held c.lay_down.new.world c.lay_down.new.records.items (deque_capacity c.lay_down.new.records) m i.short.value i.serial true 1 i.moments.items (deque_capacity i.moments) i.standing i.gone in
    let rs : List Recorded = a.records in
    let w : State = a.world.state in
    let n : c.len-at.result ≡ length rs = c.len-at.ensures ∙ i.records.ok.0 in
    let r : Recorded = c.index.result.now in
    let not_out : i.out ≡ false = sym (staged-out a) ∙ ap (λ s. s.out) c.self.view_is ∙ c.requires.not_out in
    let laid_one : LaysOne a b r = record {
      some = omega (arith, staged-in_place a, ap (λ s. length s.in_place) c.self.view_is, c.requires.any);
      not_out = not_out;
      at = ap (λ k. k - 1) n;
      stays = ap (λ (t : Taking). t.stays) c.deref_mut-2.ensures.value ∙ ap (λ (t : Taking). t.stays) c.deref_mut.ensures.value;
      short = refl;
      short_spare = refl;
      state = c.lay_down.ensures.state ∙ ap (λ k. foot w (drop (k - 1) rs)) n;
      ready = c.lay_down.ensures.ready;
      records = c.lay_down.ensures.records ∙ ap (λ k. take (k - 1) rs) n;
      other = ap (λ (t : Taking). t.other.items) c.deref_mut-2.ensures.value ∙ c.lay_down.ensures.into ∙ ap (λ (t : Taking). t.other.items ++ reverse (laid (foot w (drop (c.len-at.result - 1) rs)) (drop (c.len-at.result - 1) rs))) c.deref_mut.ensures.value ∙ ap (λ k. i.pending.value.other.items ++ reverse (laid (foot w (drop (k - 1) rs)) (drop (k - 1) rs))) n;
      spare = ap (λ (t : Taking). t.spare.items) c.deref_mut-2.ensures.value ∙ ap (λ (t : Taking). t.spare.items) c.deref_mut.ensures.value;
      pending_room = ap (λ (t : Taking). vec_capacity t.spare) c.deref_mut-2.ensures.value ∙ ap (λ (t : Taking). vec_capacity t.spare) c.deref_mut.ensures.value;
      other_room = omega (arith, ap (λ (t : Taking). vec_capacity t.other) c.deref_mut-2.ensures.value, c.lay_down.ensures.into_kept, ap (λ (t : Taking). vec_capacity t.other) c.deref_mut.ensures.value);
      room = c.lay_down.ensures.kept;
      moments = refl;
      moments_room = refl;
      undone = refl;
      standing = refl;
      serial = refl;
      out = ap (λ (t : Taking). Some t.out) c.deref_mut-2.ensures.value ∙ ap (λ (t : Taking). Some t.out) c.deref_mut.ensures.value;
      read = c.index.ensures ∙ ap (λ k. get_or rs (k - 1) r) n;
    } in
    let one : CallsAtMost 1 i.world.work c.lay_down.new.world.work = within_more _ _ _ _ (omega (arith, n, i.records.ok.0)) c.lay_down.ensures.work in
    subst (λ s. CallsToTurn s (staged_of b)) c.self.view_is (turn_calls a b r c.self.invariant laid_one one)

pub returns-else-serial-self-clause-work : goal.returns-else-serial-self-clause-work
returns-else-serial-self-clause-work g c =
    let i = c.self.inside in
    let a : StageHeld = stage_held i.world i.records.items (deque_capacity i.records) i.pending.value i.short.value i.serial i.out i.passed i.moments.items (deque_capacity i.moments) i.standing i.gone in
    let d : Taking = c.deref_mut-2.result.now in
    let m : Taking = record { serial = d.serial; out = d.out; at = c.len-at.result - 1; stays = d.stays; other = d.other; spare = d.spare } in
    let b : StageHeld = stage_held c.lay_down.new.world c.lay_down.new.records.items (deque_capacity c.lay_down.new.records) m i.short.value i.serial i.out i.passed i.moments.items (deque_capacity i.moments) i.standing i.gone in
    let rs : List Recorded = a.records in
    let w : State = a.world.state in
    let n : c.len-at.result ≡ length rs = c.len-at.ensures ∙ i.records.ok.0 in
    let r : Recorded = c.index.result.now in
    let not_out : i.out ≡ false = sym (staged-out a) ∙ ap (λ s. s.out) c.self.view_is ∙ c.requires.not_out in
    let laid_one : LaysOne a b r = record {
      some = omega (arith, staged-in_place a, ap (λ s. length s.in_place) c.self.view_is, c.requires.any);
      not_out = not_out;
      at = ap (λ k. k - 1) n;
      stays = ap (λ (t : Taking). t.stays) c.deref_mut-2.ensures.value ∙ ap (λ (t : Taking). t.stays) c.deref_mut.ensures.value;
      short = refl;
      short_spare = refl;
      state = c.lay_down.ensures.state ∙ ap (λ k. foot w (drop (k - 1) rs)) n;
      ready = c.lay_down.ensures.ready;
      records = c.lay_down.ensures.records ∙ ap (λ k. take (k - 1) rs) n;
      other = ap (λ (t : Taking). t.other.items) c.deref_mut-2.ensures.value ∙ c.lay_down.ensures.into ∙ ap (λ (t : Taking). t.other.items ++ reverse (laid (foot w (drop (c.len-at.result - 1) rs)) (drop (c.len-at.result - 1) rs))) c.deref_mut.ensures.value ∙ ap (λ k. i.pending.value.other.items ++ reverse (laid (foot w (drop (k - 1) rs)) (drop (k - 1) rs))) n;
      spare = ap (λ (t : Taking). t.spare.items) c.deref_mut-2.ensures.value ∙ ap (λ (t : Taking). t.spare.items) c.deref_mut.ensures.value;
      pending_room = ap (λ (t : Taking). vec_capacity t.spare) c.deref_mut-2.ensures.value ∙ ap (λ (t : Taking). vec_capacity t.spare) c.deref_mut.ensures.value;
      other_room = omega (arith, ap (λ (t : Taking). vec_capacity t.other) c.deref_mut-2.ensures.value, c.lay_down.ensures.into_kept, ap (λ (t : Taking). vec_capacity t.other) c.deref_mut.ensures.value);
      room = c.lay_down.ensures.kept;
      moments = refl;
      moments_room = refl;
      undone = refl;
      standing = refl;
      serial = refl;
      out = ap (λ (t : Taking). Some t.out) c.deref_mut-2.ensures.value ∙ ap (λ (t : Taking). Some t.out) c.deref_mut.ensures.value;
      read = c.index.ensures ∙ ap (λ k. get_or rs (k - 1) r) n;
    } in
    let one : CallsAtMost 1 i.world.work c.lay_down.new.world.work = within_more _ _ _ _ (omega (arith, n, i.records.ok.0)) c.lay_down.ensures.work in
    subst (λ s. CallsToTurn s (staged_of b)) c.self.view_is (turn_calls a b r c.self.invariant laid_one one)
