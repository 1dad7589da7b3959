use Rattle.std.proofs.Common.{[], ◌∷◌, ◌∙◌, subst, arith, length-append}
use Rattle.std.proofs.IntoIterSteps.{All-taken}
use Rattle.bt_without.specs.Events.{IsRun}
use Rattle.bt_without.proofs.EventLemmas.{run_more}
use Rattle.bt_without.proofs.events.run.Goals as goal

pub loop-event-preserved : goal.loop-event-preserved
loop-event-preserved g c = record {
  ran = run_more g.K.MapKind.seen c.args.book.now.plain c.loop-event.book.plain c.step.new.book.plain c.loop-event.yielded c.loop-event.answers.items c.push_reserved.new.self.items c.in-Some.event c.step.result c.loop-event.invariant.ran c.step.ensures.stepped c.push_reserved.ensures.items;
  count = omega (arith, c.push_reserved.ensures.len, c.loop-event.invariant.count, length-append c.loop-event.yielded (c.in-Some.event ∷ []));
  room = omega (arith, c.push_reserved.ensures.capacity, c.loop-event.invariant.room);
}

pub returns-clause-ran : goal.returns-clause-ran
returns-clause-ran g c =
    let from = c.into_iter-event-iterator in
    let all = All-taken from.result c.loop-event.yielded (c.next.new.self, (c.loop-event.event-iterator, c.loop-event.yielded_by, c.in-None.ensures.steps)) ∙ from.ensures.into_iter_gives.0 in
    subst (λ es. IsRun g.K.MapKind.seen c.args.book.now.plain es c.loop-event.answers.items c.loop-event.book.plain) all c.loop-event.invariant.ran
