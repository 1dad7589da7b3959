use Rattle.host_state.specs.declared.reply.Refusal.{Refusal}
use Rattle.host_state.specs.declared.reply.Reply.{Reply}
use Rattle.host_undoing.specs.declared.undoing.Undoing.{Undoing}
use Rattle.host_state.specs.Work.{walks, most_calls, after_change}
use Rattle.journal_moments.proofs.CostLemmas.{work_accepted, work_taken_back}
use Rattle.journal_timeline.proofs.doing.done.Goals as goal

pub returns-in-Err-of-clause-work : goal.returns-in-Err-of-clause-work
returns-in-Err-of-clause-work g c =
    let s = c.args.world.now.state in
    let change = c.args.change.now in
    let old = c.args.world.now.work in
    work_taken_back change (walks s change) (most_calls s change) old c.apply.new.self.work c.turn.new.self.work c.in-Err-of.undoing
    (work_accepted (Reply × Undoing) Refusal (walks s change) (most_calls s change) old (after_change change old) c.apply.new.self.work c.in-Ok.both c.in-Ok.ensures.work)
    c.turn.ensures.work
