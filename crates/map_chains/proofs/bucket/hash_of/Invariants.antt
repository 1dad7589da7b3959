use Rattle.std.proofs.Common.{◌≡◌, take}
use Rattle.std.specs.List.{fold}
use Rattle.map_chains.specs.Buckets.{mixed}
use Rattle.map_chains.proofs.bucket.hash_of.Given as goal

abbrev pub invariant-loop-byte : goal.invariant-loop-byte
invariant-loop-byte l = l.hash ≡ fold mixed 2166136261 (take l.byte-index l.key)
