-- The path of a pin that goes: what is read is spelled, and each state can be gone on with.
use Rattle.std.proofs.Common.{◌≡◌, ℕ, List, [], ◌∷◌, refl, ap, Some, IsSome}
use Rattle.std.specs.Prelude.{codes}
use Rattle.console_operand.specs.Automaton.{read}
use Rattle.bt_syntax.specs.UnpinSteps.{unpin_step, unpin_finish}
use Rattle.bt_syntax.specs.declared.unpin.UnpinState.{UnpinState}
use Rattle.bt_syntax.specs.declared.unpin.UnpinState.TheVariants as u

pub unpin_spelled : (words : List (List ℕ)) (path : List ℕ) → read unpin_step unpin_finish u.Path words ≡ Some path → words ≡ path ∷ []
unpin_spelled [] path h = cc
unpin_spelled (word ∷ []) path h = ap (λ w. w ∷ []) (some_same h)
  where
    some_same : Some word ≡ Some path → word ≡ path
    some_same e = cc
unpin_spelled (word ∷ other ∷ words) path h = cc

abbrev pub unpin_end : UnpinState → List (List ℕ)
unpin_end u.Path = codes "x" ∷ []
unpin_end (u.Done path) = []

pub unpin_ends : (state : UnpinState) → IsSome (read unpin_step unpin_finish state (unpin_end state))
unpin_ends u.Path = refl
unpin_ends (u.Done path) = refl
