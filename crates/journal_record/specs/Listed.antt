-- Which objects the moments have.
use Rattle.std.specs.Prelude.{ℕ, ◌≤◌, List, [], ◌∷◌}
use Rattle.host_state.specs.World.{ListsAll}
use Rattle.journal_model.specs.Plain.{Past, Pasts}
use Rattle.journal_model.specs.Well.{EachPair}

-- each object of each of these moments is listed
abbrev pub ListsMoments : List ℕ → List ℕ → List Past → Type 0
ListsMoments maps progs [] = Unit {0}
ListsMoments maps progs (m ∷ ms) = ListsAll maps progs m.state × ListsMoments maps progs ms

-- each object of the base, of a moment or of an undone one is listed
pub record ListsPasts (maps progs : List ℕ) (p : Pasts) : Type 0 where
  pub in_base : ListsAll maps progs p.base
  pub in_moments : ListsMoments maps progs p.moments
  pub in_undone : ListsMoments maps progs p.undone

-- a list of ids in ascending order
abbrev pub Rises : List ℕ → Type 0
Rises ids = EachPair (λ (a b : ℕ). a ≤ b) ids
