use Rattle.std.proofs.Common.{List, ◌++◌, reverse, refl, sym, ◌∙◌, ap, subst, arith}
use Rattle.host_state.specs.State.{State}
use Rattle.host_state.specs.World.{Ready}
use Rattle.host_undoing.specs.Exchange.{turned}
use Rattle.journal_record.specs.After.{state_after}
use Rattle.journal_record.specs.Recorded.{Recorded}
use Rattle.journal_record.specs.Records.{entries, stood, AllLying}
use Rattle.journal_record.proofs.LineLemmas.{one_forth_of, stood_one, state_one}
use Rattle.host_state.proofs.CallLemmas.{none_made, made_more, made_within}
use Rattle.journal_record.proofs.TurnLemmas.{turned_once}
use Rattle.journal_record.proofs.turning.stand_up.Goals as goal

pub turn-requires-after_bounds : goal.turn-requires-after_bounds
turn-requires-after_bounds g c κs bounds =
    (one_forth_of c.loop-record.world.ready c.loop-record.world.state c.loop-record.from.items c.pop.new.self.items c.in-Some.record c.in-Some.ensures.items c.loop-record.invariant.lying).fits

pub loop-record-preserved : goal.loop-record-preserved
loop-record-preserved g c =
    let ready : Ready = c.loop-record.world.ready in
    let w : State = c.loop-record.world.state in
    let r : Recorded = c.in-Some.record in
    let u : Recorded = c.turn.new.self in
    let rest : List Recorded = c.pop.new.self.items in
    let from : List Recorded = c.loop-record.from.items in
    record {
      lying = subst (λ v. AllLying v c.turn.new.world.state (reverse rest)) (sym c.turn.ensures.ready)
          (subst (λ v. AllLying ready v (reverse rest)) (sym c.turn.ensures.state) (one_forth_of ready w from rest r c.in-Some.ensures.items c.loop-record.invariant.lying).lying);
      state = c.loop-record.invariant.state ∙ state_one ready w from rest r c.in-Some.ensures.items c.loop-record.invariant.lying ∙ ap (λ v. state_after v (entries (reverse rest))) (sym c.turn.ensures.state);
      ready = c.turn.ensures.ready ∙ c.loop-record.invariant.ready;
      moved = c.loop-record.invariant.moved
          ∙ stood_one ready w from rest r u c.loop-record.records.items c.in-Some.ensures.items c.loop-record.invariant.lying c.turn.ensures.entry c.turn.ensures.undoing
          ∙ ap (λ xs. xs ++ stood (turned w r.undoing) (reverse rest)) (sym c.push_back_reserved.ensures.items)
          ∙ ap (λ v. c.push_back_reserved.new.self.items ++ stood v (reverse rest)) (sym c.turn.ensures.state);
      room = omega (arith, c.in-Some.ensures.len, c.push_back_reserved.ensures.len, c.push_back_reserved.ensures.capacity);
      kept = omega (arith, c.push_back_reserved.ensures.capacity);
      from_kept = c.in-Some.ensures.capacity ∙ c.loop-record.invariant.from_kept;
      work = made_more _ _ 1 _ _ _ _ (omega (arith, c.in-Some.ensures.len)) c.loop-record.invariant.work (turned_once c.in-Some.record.undoing _ _ c.turn.ensures.work);
    }

pub loop-record-init : goal.loop-record-init
loop-record-init g c = record {
  lying = c.requires.lying;
  state = refl;
  ready = refl;
  moved = refl;
  room = c.requires.room;
  kept = omega arith;
  from_kept = refl;
  work = none_made _ _;
}

pub returns-clause-work : goal.returns-clause-work
returns-clause-work g c = made_within _ _ _ _ _ (omega arith) c.loop-record.invariant.work
