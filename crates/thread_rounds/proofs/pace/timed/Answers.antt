use Rattle.std.proofs.Common.{◌≡◌, ℕ, ◌+◌, ◌-◌, min, max, arith}
use Rattle.thread_rounds.proofs.pace.timed.Goals as goal

-- an interval after the later of the two, and never later than the last time that there is
later : (due now interval last wait at next : ℕ) → wait ≡ due - now → at ≡ min (now + wait) last → next ≡ min (at + interval) last → next ≡ min (max due now + interval) last
later due now interval last wait at next w a n = omega (arith, w, a, n)

pub returns-clause-next : goal.returns-clause-next
returns-clause-next c = later _ _ _ _ _ _ _ c.saturating_sub-wait.ensures c.saturating_add-at.ensures c.saturating_add.ensures
