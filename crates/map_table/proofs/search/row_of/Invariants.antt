use Rattle.std.proofs.Common.{length, get_or, []}
use Rattle.map_chains.specs.Buckets.{bucket_of}
use Rattle.map_table.proofs.Searched.{IsWalked}
use Rattle.map_table.proofs.search.row_of.Given as goal

abbrev pub invariant-loop-step : goal.invariant-loop-step
invariant-loop-step l = IsWalked l.keys (get_or l.chains.buckets (bucket_of (length l.chains.buckets) l.key) []) l.key l.link l.step
