use Rattle.host_state.specs.Work.{walks, most_calls}
use Rattle.journal_moments.proofs.CostLemmas.{work_taken_back}
use Rattle.journal_timeline.proofs.doing.reapply.Goals as goal

pub returns-then-not-got-clause-work : goal.returns-then-not-got-clause-work
returns-then-not-got-clause-work g c =
    let s = c.args.world.now.state in
    let change = c.args.former.now.entry.change in
    let old = c.args.world.now.work in
    work_taken_back change (walks s change) (most_calls s change) old c.done_again.new.world.work c.turn.new.world.work c.in-Ok.again.undoing c.in-Ok.ensures.work c.turn.ensures.work
