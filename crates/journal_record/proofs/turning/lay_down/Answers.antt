use Rattle.std.proofs.Common.{ℕ, ◌≤◌, List, [], ◌∷◌, ◌++◌, length, take, drop, reverse, refl, sym, ◌∙◌, ap, subst, arith}
use Rattle.std.proofs.lemmas.List.{take-append-le}
use Rattle.host_state.specs.State.{State}
use Rattle.host_state.specs.World.{Ready}
use Rattle.host_undoing.specs.Exchange.{turned}
use Rattle.journal_record.specs.Recorded.{Recorded}
use Rattle.journal_record.specs.Records.{laid, foot, Leads}
use Rattle.journal_record.proofs.LineLemmas.{OneBack, one_back_past, moved_one, drop_push}
use Rattle.host_state.proofs.CallLemmas.{none_made, made_more, made_within}
use Rattle.journal_record.proofs.TurnLemmas.{turned_once}
use Rattle.journal_record.proofs.turning.lay_down.Goals as goal

pub turn-requires-after_bounds : goal.turn-requires-after_bounds
turn-requires-after_bounds g c κs bounds =
    (one_back_past c.loop-records.world.ready c.args.at c.loop-records.world.state c.loop-records.records.items c.pop_back.new.self.items c.in-Some.record c.in-Some.ensures.items (omega (arith, c.in-Some.ensures.cases, c.pop_back.new.self.ok.0)) c.loop-records.invariant.leads).fits

pub loop-records-preserved : goal.loop-records-preserved
loop-records-preserved g c =
    let ready : Ready = c.loop-records.world.ready in
    let at : ℕ = c.args.at in
    let w : State = c.loop-records.world.state in
    let r : Recorded = c.in-Some.record in
    let u : Recorded = c.turn.new.self in
    let rest : List Recorded = c.pop_back.new.self.items in
    let within : at ≤ length rest = omega (arith, c.in-Some.ensures.cases, c.pop_back.new.self.ok.0) in
    let b : OneBack ready w (drop at rest) r = one_back_past ready at w c.loop-records.records.items rest r c.in-Some.ensures.items within c.loop-records.invariant.leads in
    record {
      within = omega (arith, c.in-Some.ensures.cases);
      leads = subst (λ v. Leads v (foot c.turn.new.world.state (drop at rest)) c.turn.new.world.state (drop at rest)) (sym c.turn.ensures.ready)
          (subst (λ v. Leads ready (foot v (drop at rest)) v (drop at rest)) (sym c.turn.ensures.state) b.leads);
      foot_same = c.loop-records.invariant.foot_same ∙ ap (foot w) (drop_push at c.loop-records.records.items rest r c.in-Some.ensures.items within) ∙ b.foot_same ∙ ap (λ v. foot v (drop at rest)) (sym c.turn.ensures.state);
      ready = c.turn.ensures.ready ∙ c.loop-records.invariant.ready;
      front = sym (take-append-le at rest (r ∷ []) within) ∙ ap (take at) (sym c.in-Some.ensures.items) ∙ c.loop-records.invariant.front;
      moved = c.loop-records.invariant.moved
          ∙ moved_one ready at w c.loop-records.records.items rest r u c.loop-records.into.items c.in-Some.ensures.items within c.loop-records.invariant.leads c.turn.ensures.entry c.turn.ensures.undoing
          ∙ ap (λ xs. xs ++ reverse (laid (foot (turned w r.undoing) (drop at rest)) (drop at rest))) (sym c.in-Ok.ensures.items)
          ∙ ap (λ v. c.push.new.self.items ++ reverse (laid (foot v (drop at rest)) (drop at rest))) (sym c.turn.ensures.state);
      room = omega (arith, c.in-Some.ensures.cases, c.in-Ok.ensures.len, c.in-Ok.ensures.capacity);
      kept = c.in-Some.ensures.capacity ∙ c.loop-records.invariant.kept;
      into_kept = omega (arith, c.in-Ok.ensures.capacity);
      work = made_more _ _ 1 _ _ _ _ (omega (arith, c.in-Some.ensures.cases)) c.loop-records.invariant.work (turned_once c.in-Some.record.undoing _ _ c.turn.ensures.work);
    }

pub loop-records-init : goal.loop-records-init
loop-records-init g c = record {
  within = c.requires.within;
  leads = c.requires.leads;
  foot_same = refl;
  ready = refl;
  front = refl;
  moved = refl;
  room = c.requires.room;
  kept = refl;
  into_kept = omega arith;
  work = none_made _ _;
}

pub returns-clause-work : goal.returns-clause-work
returns-clause-work g c = made_within _ _ _ _ _ (omega arith) c.loop-records.invariant.work
