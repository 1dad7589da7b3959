use Rattle.std.proofs.Common.{ℕ, ◌<◌, ◌∙◌, rules, ap, subst, sym}
use Rattle.thread_lock.proofs.Steady.{draws}
use Rattle.thread_lock.proofs.turns.Turns.draw.Goals as goal

pub fetch_add-requires : goal.fetch_add-requires
fetch_add-requires g c =
    let same = c.sleeps.invariant.1 in (
      search rules,
      search rules,
      draws g.S.Sequential.steps _ _ _ _ (ap (λ m. m.0.stage) same ∙ c.requires.idle.0) (subst (λ (n : ℕ). 0 < n) (sym (ap (λ m. m.0.left) same)) c.requires.idle.1),
    )
