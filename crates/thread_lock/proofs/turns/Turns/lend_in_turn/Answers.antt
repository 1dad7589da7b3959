use Rattle.std.proofs.Common.{length, sym, ap, ◌∙◌, length-append}
use Rattle.thread_lock.proofs.Calling.{slot_entered, has_worked, stepped}
use Rattle.thread_lock.proofs.turns.Turns.lend_in_turn.Goals as goal

pub work_lent-told-requires-clause-holds : goal.work_lent-told-requires-clause-holds
work_lent-told-requires-clause-holds g c = slot_entered g.S.Sequential.steps _ _ c.enter.ensures.enters

pub leave-requires-clause-worked : goal.leave-requires-clause-worked
leave-requires-clause-worked g c =
    has_worked g.S.Sequential.steps c.args.place.now.me.0 c.enter.new.place.me c.work_lent-told.new.place.me (g.J.Lent.event c.args.job.now) (g.J.Lent.answer c.work_lent-told.result) c.enter.ensures.enters c.work_lent-told.ensures.works _ c.requires.opened

pub returns-clause-empty : goal.returns-clause-empty
returns-clause-empty g c =
    (stepped g.S.Sequential.steps c.args.place.now.me.0 c.enter.new.place.me c.work_lent-told.new.place.me (g.J.Lent.event c.args.job.now) (g.J.Lent.answer c.work_lent-told.result) c.enter.ensures.enters c.work_lent-told.ensures.works _ c.leave.ensures.serves).0

pub returns-clause-steps : goal.returns-clause-steps
returns-clause-steps g c =
    (stepped g.S.Sequential.steps c.args.place.now.me.0 c.enter.new.place.me c.work_lent-told.new.place.me (g.J.Lent.event c.args.job.now) (g.J.Lent.answer c.work_lent-told.result) c.enter.ensures.enters c.work_lent-told.ensures.works _ c.leave.ensures.serves).1

pub returns-clause-place : goal.returns-clause-place
returns-clause-place g c =
    let worked = has_worked g.S.Sequential.steps c.args.place.now.me.0 c.enter.new.place.me c.work_lent-told.new.place.me (g.J.Lent.event c.args.job.now) (g.J.Lent.answer c.work_lent-told.result) c.enter.ensures.enters c.work_lent-told.ensures.works _ c.requires.opened in
    let after = c.leave.ensures.serves worked.kept worked.call worked.held worked.noted in
    c.leave.ensures.place ∙ sym (ap (λ m. length m.0.seen) after ∙ length-append c.work_lent-told.new.place.me.0.seen _)
