use Rattle.map_chains.proofs.BucketLemmas.{begun}
use Rattle.map_chains.proofs.chains.Chains.new.Goals as goal

pub invariant_of-result : goal.invariant_of-result
invariant_of-result c = (begun c.args.rows c.args.buckets c.in_ok-after.after.items c.in_ok-before.before.items c.requires.some c.requires.few c.in_ok-after.ensures c.in_ok-before.ensures).linked

pub returns : goal.returns
returns c = (begun c.args.rows c.args.buckets c.in_ok-after.after.items c.in_ok-before.before.items c.requires.some c.requires.few c.in_ok-after.ensures c.in_ok-before.ensures).view
