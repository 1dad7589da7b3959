use Rattle.std.proofs.Common.{◌≤◌, length, ap, arith, ◌∙◌}
use Rattle.std.proofs.lemmas.List.{take_all}
use Rattle.std.specs.List.{fold}
use Rattle.map_chains.specs.Buckets.{mixed, hash_of}
use Rattle.map_chains.proofs.bucket.hash_of.Goals as goal

pub returns : goal.returns
unfolding hash_of
returns c =
    let past : length c.args.key.now ≤ c.loop-byte.byte-index = omega arith in
    c.loop-byte.invariant ∙ ap (fold mixed 2166136261) (take_all c.loop-byte.byte-index c.args.key.now past)
