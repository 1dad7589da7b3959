-- Calls that are made one after another.
use Rattle.std.proofs.Common.{◌≡◌, ◌≤◌, ◌+◌, ℕ, zero, suc, inl, inr, refl, ap, ◌∙◌, arith}
use Rattle.std.specs.Prelude.{◌*◌, if◌then◌else◌}
use Rattle.bt_objects.specs.Boxes.{one_more}
use Rattle.host_state.specs.State.{HostMap}
use Rattle.bt_mapkind.specs.Inner.{holds_ids}
use Rattle.host_state.specs.Work.{after_calls, AllOrNone, CallsAtMost}

-- how many calls of its box a walk makes on one map
abbrev pub calls_to_walk : HostMap → ℕ
calls_to_walk m = if holds_ids m.attr.kind then 2 * m.attr.max_entries + 1 else 0

calls_then : (m n work : ℕ) → after_calls m (after_calls n work) ≡ after_calls (m + n) work
calls_then zero n work =
    let same : n ≡ zero + n = omega arith in ap (λ k. after_calls k work) same
calls_then (suc m) n work =
    let same : suc (m + n) ≡ suc m + n = omega arith in ap one_more (calls_then m n work) ∙ ap (λ k. after_calls k work) same

pub within_none : (most old new : ℕ) → new ≡ old → CallsAtMost most old new
within_none most old new same = (zero, omega arith, same)

pub within_more : (most more old new : ℕ) → most ≤ more → CallsAtMost most old new → CallsAtMost more old new
within_more most more old new below (n, n_below, n_is) = (n, omega (arith, below, n_below), n_is)

pub within_one : (most old new : ℕ) → 1 ≤ most → new ≡ one_more old → CallsAtMost most old new
within_one most old new below one = (suc zero, below, one)

pub within_both : (first second most old middle new : ℕ) → first + second ≤ most → CallsAtMost first old middle → CallsAtMost second middle new → CallsAtMost most old new
within_both first second most old middle new both (m, m_below, m_is) (n, n_below, n_is) =
    (n + m, omega (arith, both, m_below, n_below), n_is ∙ ap (after_calls n) m_is ∙ calls_then n m old)

pub within_call : (old new : ℕ) → AllOrNone old (one_more old) new → CallsAtMost 1 old new
within_call old new (inl none) = (zero, omega arith, none)
within_call old new (inr all) = (suc zero, omega arith, all)

-- ---- a walk in steps
-- calls were made that are, with so many that are left, no more than all
abbrev pub CallsLeft : ℕ → ℕ → ℕ → ℕ → Type 0
CallsLeft all left old new = (calls : ℕ) × (calls + left ≤ all) × (new ≡ after_calls calls old)

pub none_made : (all old : ℕ) → CallsLeft all all old old
none_made all old = (zero, omega arith, refl)

pub made_more : (all left here rest old middle new : ℕ) → left ≡ here + rest → CallsLeft all left old middle → CallsAtMost here middle new → CallsLeft all rest old new
made_more all left here rest old middle new is (m, m_below, m_is) (n, n_below, n_is) =
    (n + m, omega (arith, is, m_below, n_below), n_is ∙ ap (after_calls n) m_is ∙ calls_then n m old)

pub made_within : (all left most old new : ℕ) → all ≤ most → CallsLeft all left old new → CallsAtMost most old new
made_within all left most old new below (n, n_below, n_is) = (n, omega (arith, below, n_below), n_is)
