-- Where the slot lies, when the view of one seat changes or one more seat comes.
use Rattle.std.proofs.Common.{◌≡◌, ⊎_elim, inl, inr, ℕ, List, [], ◌∷◌, ◌++◌, set, ap, sym, ◌∙◌}
use mathlib.Core.Option.{some, none, some-injective}
use mathlib.Core.Option as maybe
use mathlib.Core.Logic.{dite}
use native.Mathlib.Decide.{ℕ_discrete}
use lib.ListN.{get_elem?}
use Rattle.atomic_table.proofs.Lists.{set_else, at_longer}
use Rattle.thread_lock.specs.declared.rule.Kept.{Kept}
use Rattle.thread_lock.specs.declared.rule.View.{View}
use Rattle.thread_lock.specs.declared.rule.Stage.TheVariants.{Turn}
use Rattle.thread_lock.specs.Rule.{Lies}
use Rattle.thread_lock.proofs.Rows.{at_here}

module _ {S E A : Type 0} (state : S) (served : ℕ) (homes : List (maybe.Option (Kept S E A))) (vs : List (View S E A)) where
  -- the slot is out with some seat
  abbrev Out : Type 0
  Out = (homes ≡ none ∷ []) × ((j : ℕ) × (u : View S E A) × (get_elem? vs j ≡ some u) × (u.stage ≡ Turn served))

  pub lies_set : (id : ℕ) (v w : View S E A) → get_elem? vs id ≡ some v → (v.stage ≡ Turn served → w.stage ≡ Turn served) → Lies state served homes vs → Lies state served homes (set vs id w)
  lies_set id v w at stays l = ⊎_elim (λ t. inl t)
      (λ (t : Out). inr (
        t.0,
        dite (ℕ_discrete t.1.0 id)
            (λ e. let same : t.1.1 ≡ v = some-injective t.1.1 v (sym t.1.2 ∙ (ap (get_elem? vs) e ∙ at)) in (id, w, at_here vs id v w at, stays (ap (λ (x : View S E A). x.stage) (sym same) ∙ t.1.3)))
            (λ ne. (t.1.0, t.1.1, set_else vs id t.1.0 w ne ∙ t.1.2, t.1.3)),
      )) l

  pub lies_more : (w : View S E A) → Lies state served homes vs → Lies state served homes (vs ++ w ∷ [])
  lies_more w l = ⊎_elim (λ t. inl t) (λ (t : Out). inr (t.0, (t.1.0, t.1.1, at_longer vs (w ∷ []) t.1.0 t.1.1 t.1.2, t.1.3))) l
