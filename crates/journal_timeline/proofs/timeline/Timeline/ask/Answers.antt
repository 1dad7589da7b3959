use Rattle.std.proofs.Common.{◌≡◌, sym, ◌∙◌, ap, subst, IfOk, deque_capacity}
use Rattle.host_state.specs.Ask.{ask}
use Rattle.host_state.specs.State.{State}
use Rattle.host_state.specs.Work.{CallsAtMost, calls_of}
use Rattle.journal_model.specs.Plain.{now}
use Rattle.journal_moments.specs.Held.{Held, held}
use Rattle.journal_moments.specs.View.{LineView}
use Rattle.journal_moments.proofs.HeldLemmas.{Sound-same, pasts_of-same, same_world}
use Rattle.journal_moments.proofs.NewestLemmas.{now-pasts_of}
use Rattle.journal_timeline.proofs.timeline.Timeline.ask.Goals as goal

pub invariant_of-self : goal.invariant_of-self
invariant_of-self g c =
    let i = c.self.inside in
    let a : Held = held i.world i.records.items (deque_capacity i.records) i.moments.items i.standing i.gone in
    Sound-same a _ c.self.invariant (same_world a c.ask.new.self c.ask.ensures.state c.ask.ensures.ready)

pub returns-clause-answer : goal.returns-clause-answer
returns-clause-answer g c =
    let i = c.self.inside in
    subst (λ (s : State). IfOk c.ask.result (λ reply. reply ≡ ask s c.args.question.now))
    (sym (now-pasts_of (held i.world i.records.items (deque_capacity i.records) i.moments.items i.standing i.gone) c.self.invariant) ∙ ap (λ v. now v.pasts) c.self.view_is) c.ask.ensures.answer

pub returns-clause-pasts : goal.returns-clause-pasts
returns-clause-pasts g c =
    let i = c.self.inside in
    let a : Held = held i.world i.records.items (deque_capacity i.records) i.moments.items i.standing i.gone in
    pasts_of-same a _ c.self.invariant (same_world a c.ask.new.self c.ask.ensures.state c.ask.ensures.ready) ∙ ap (λ v. v.pasts) c.self.view_is

pub returns-clause-work : goal.returns-clause-work
returns-clause-work g c =
    let i = c.self.inside in
    let a : Held = held i.world i.records.items (deque_capacity i.records) i.moments.items i.standing i.gone in
    subst (λ (v : LineView). CallsAtMost (calls_of (now v.pasts) c.args.question.now) v.work c.ask.new.self.work) c.self.view_is
    (subst (λ (s : State). CallsAtMost (calls_of s c.args.question.now) i.world.work c.ask.new.self.work) (sym (now-pasts_of a c.self.invariant)) c.ask.ensures.work)
