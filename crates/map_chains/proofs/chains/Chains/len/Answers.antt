use Rattle.std.proofs.Common.{arith}
use Rattle.map_chains.proofs.BucketLemmas.{count_is}
use Rattle.map_chains.proofs.chains.Chains.len.Goals as goal

pub returns : goal.returns
returns c = omega (arith, count_is _ _ _ _ c.self.invariant c.self.view_is, c.self.inside.after.ok.0, c.len.ensures)
