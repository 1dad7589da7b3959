use Rattle.std.proofs.Common.{◌-◌, ap, arith, bit_and}
use Rattle.std.proofs.lemmas.Nat.{and_le_r}
use Rattle.map_chains.specs.Buckets.{bucket_of}
use Rattle.map_chains.proofs.bucket.bucket_of.Goals as goal

pub returns-clause-bucket : goal.returns-clause-bucket
unfolding bucket_of
returns-clause-bucket c = ap (λ hash. bit_and hash (c.args.count - 1)) c.hash_of.ensures

pub returns-clause-within : goal.returns-clause-within
returns-clause-within c = omega (arith, and_le_r c.hash_of.result (c.args.count - 1))
