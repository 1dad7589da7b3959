-- How many calls of boxes a stage of a timeline makes.
use Rattle.std.proofs.Common.{◌≡◌, ◌+◌, ◌-◌, ◌<◌, [], ◌∷◌, length, get_or, sym, ap, subst, arith, length-append, Result, Ok, Err}
use Rattle.host_state.specs.World.{Ready}
use Rattle.host_state.specs.Work.{CallsAtMost}
use Rattle.journal_moments.specs.Recorded.{Recorded}
use Rattle.journal_moments.specs.Calls.{Costs}
use Rattle.journal_timeline.specs.StageHeld.{StageHeld, staged_of, calls_to_restore, Turning, Redoing, SoundStage}
use Rattle.journal_timeline.specs.StageCalls.{CallsToTurn, CostsNext, CallsToGoOn}
use Rattle.journal_timeline.specs.declared.stage.AgainFault.{AgainFault}
use Rattle.journal_timeline.proofs.StageLemmas.{LaysOne, lays_length, is_turning, is_redoing}
use Rattle.journal_timeline.proofs.AgainLemmas.{with_ready, GoesAgain, SameStage, left_next}

pub turn_calls : (a b : StageHeld) (r : Recorded) → SoundStage a → LaysOne a b r → CallsAtMost 1 a.world.work b.world.work → CallsToTurn (staged_of a) (staged_of b)
unfolding staged_of
turn_calls a b r s g made =
    let t : Turning a = is_turning a s g.not_out in
    let l : (length b.records + 1 ≡ length a.records) × (length b.pending.other ≡ length a.pending.other + 1) = lays_length a b r s g in
    record { made = made; to_restore = omega (arith, t.at, t.stays, g.at, g.stays, l.0, l.1) }

-- one more is to be turned back
again_restore : (a b : StageHeld) (old r : Recorded) → SoundStage a → GoesAgain a b old r → calls_to_restore b ≡ calls_to_restore a + 1
again_restore a b old r s g =
    let t : Redoing a = is_redoing a s g.is_out in
    omega (arith, s.can.within, t.at, ap length g.records, length-append a.records (r ∷ []), ap (λ m. m.at) g.pending, ap (λ m. m.stays) g.pending, ap (λ m. length m.other) g.pending)

pub again_calls : (a0 : StageHeld) (ready : Ready) (b : StageHeld) (old r : Recorded) (done : Unit {0}) → SoundStage (with_ready a0 ready) → GoesAgain (with_ready a0 ready) b old r
    → (let result : Result (Unit {0}) AgainFault = Ok done in Costs a0.world.state old.entry.change result a0.world.work b.world.work) → CallsToGoOn (staged_of a0) (Ok done) (staged_of b)
unfolding staged_of
again_calls a0 ready b old r done s g made = record {
  made = subst (λ es. CostsNext a0.world.state es (Ok done) a0.world.work b.world.work) (sym (left_next a0 old g.some g.read)) made;
  to_restore = again_restore (with_ready a0 ready) b old r s g;
}

pub refused_calls : (a0 : StageHeld) (ready : Ready) (b : StageHeld) (old : Recorded) (fault : AgainFault) → SameStage (with_ready a0 ready) b → a0.passed < length a0.pending.other → old ≡ get_or a0.pending.other (length a0.pending.other - 1 - a0.passed) old
    → (let result : Result (Unit {0}) AgainFault = Err fault in Costs a0.world.state old.entry.change result a0.world.work b.world.work) → CallsToGoOn (staged_of a0) (Err fault) (staged_of b)
unfolding staged_of
refused_calls a0 ready b old fault h some read made = record {
  made = subst (λ es. CostsNext a0.world.state es (Err fault) a0.world.work b.world.work) (sym (left_next a0 old some read)) made;
  to_restore = omega (arith, ap length h.records, ap (λ m. m.at) h.pending, ap (λ m. m.stays) h.pending, ap (λ m. length m.other) h.pending);
}
