use Rattle.std.proofs.Common.{length, sym, ap, ◌∙◌, length-append, subst}
use Rattle.thread_lock.specs.History.{HasStep}
use Rattle.thread_lock.specs.Seats.{opening}
use Rattle.thread_lock.specs.Visits.{Does}
use Rattle.thread_lock.proofs.Calling.{slot_entered}
use Rattle.thread_lock.proofs.Visiting.{has_visited, visited}
use Rattle.thread_lock.proofs.turns.Turns.visit_in_turn.Goals as goal

pub work_on-told-requires-clause-holds : goal.work_on-told-requires-clause-holds
work_on-told-requires-clause-holds g c = slot_entered g.S.Sequential.steps _ _ c.enter.ensures.enters

pub leave_visit-requires-clause-visited : goal.leave_visit-requires-clause-visited
leave_visit-requires-clause-visited g c =
    let works = c.work_on-told.ensures.works in
    let did : Does g.F.FnOnce c.args.does c.args.job.now c.work_on-told.result c.work_on-told.new.job works.before.state works.after.state = works.went in
    let step : HasStep g.S.Sequential.steps works.before.state works.after.state =
    subst (λ x. HasStep g.S.Sequential.steps x works.after.state) did.shows (subst (λ x. HasStep g.S.Sequential.steps did.shown.now x) did.leaves (c.requires.steps _ _ _ _ _ did.met)) in
    has_visited g.S.Sequential.steps (opening c.args.self.now) _ c.args.place.now.me.0 c.enter.new.place.me c.work_on-told.new.place.me c.requires.opened c.enter.ensures.enters works step

pub returns-clause-empty : goal.returns-clause-empty
returns-clause-empty g c = (visited g.S.Sequential.steps (opening c.args.self.now) _ c.args.place.now.me.0 c.enter.new.place.me c.work_on-told.new.place.me c.requires.opened c.enter.ensures.enters c.work_on-told.ensures.works _ c.leave_visit.ensures.serves).0

pub returns-clause-visits : goal.returns-clause-visits
returns-clause-visits g c = (visited g.S.Sequential.steps (opening c.args.self.now) _ c.args.place.now.me.0 c.enter.new.place.me c.work_on-told.new.place.me c.requires.opened c.enter.ensures.enters c.work_on-told.ensures.works _ c.leave_visit.ensures.serves).1

pub returns-clause-place : goal.returns-clause-place
returns-clause-place g c =
    let works = c.work_on-told.ensures.works in
    let after = c.leave_visit.ensures.serves works.after (ap (λ m. m.1) works.is) in
    c.leave_visit.ensures.place ∙ sym (ap (λ m. length m.0.seen) after.3 ∙ length-append c.work_on-told.new.place.me.0.seen _)
