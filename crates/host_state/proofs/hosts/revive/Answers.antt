use Rattle.std.proofs.Common.{arith, ◌∙◌}
use Rattle.std.proofs.lemmas.Bool.Decides.{nat_tests}
use Rattle.host_state.specs.Hosts.{entries_in}
use Rattle.host_state.proofs.ReviveLemmas.{one_more_done, one_more_prog_done, all_done}
use Rattle.host_state.proofs.hosts.revive.Goals as goal

pub loop-target-preserved : goal.loop-target-preserved
loop-target-preserved c =
    let old = entries_in c.loop-target.entries in
    let new = entries_in c.set_target.new.entries in
    let i = c.loop-target.target-index in (
      omega (arith, nat_tests, c.loop-target-test.true),
      λ q. one_more_done old new c.args.targets.now i _ c.args.live c.loop-target-test.true c.set_target.ensures q ∙ c.loop-target.invariant.1 q,
      λ q. one_more_prog_done old new c.args.targets.now i _ c.args.live c.loop-target-test.true c.set_target.ensures q ∙ c.loop-target.invariant.2 q,
    )

pub returns : goal.returns
returns c =
    all_done (entries_in c.args.entries.now) (entries_in c.loop-target.entries) c.args.targets.now c.loop-target.target-index c.args.live c.loop-target-test.false
    c.loop-target.invariant.1 c.loop-target.invariant.2
