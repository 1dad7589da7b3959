-- The path of a batch's file after `file`: what is read is spelled, and each state can be gone on with.
use Rattle.std.proofs.Common.{◌≡◌, ℕ, List, [], ◌∷◌, refl, ◌∙◌, ap, Some, IsSome}
use Rattle.std.specs.Prelude.{codes}
use Rattle.console_operand.specs.Automaton.{read}
use Rattle.bt_syntax.specs.BatchSteps.{batch_step, batch_finish}
use Rattle.bt_syntax.specs.declared.batch.BatchState.{BatchState}
use Rattle.bt_syntax.specs.declared.batch.BatchState.TheVariants as b
use Rattle.console_operand.proofs.WordsRead.{literal, any_word, no_word}

pub batch_spelled : (words : List (List ℕ)) (path : List ℕ) → read batch_step batch_finish b.File words ≡ Some path → words ≡ codes "file" ∷ path ∷ []
batch_spelled words path h =
    literal batch_step batch_finish b.File b.Path (codes "file") words path (λ w. refl) refl (λ rest cut named.
    any_word batch_step batch_finish b.Path b.Done rest path (λ w. refl) refl (λ word last there found.
    let (none, same) = no_word batch_step batch_finish (b.Done word) word last path (λ w. refl) refl found in
    cut ∙ ap (λ ws. codes "file" ∷ ws) (there ∙ ap (λ ws. word ∷ ws) none ∙ ap (λ w. w ∷ []) same)) named) h

abbrev pub batch_end : BatchState → List (List ℕ)
batch_end b.File = codes "file" ∷ codes "x" ∷ []
batch_end b.Path = codes "x" ∷ []
batch_end (b.Done path) = []

pub batch_ends : (state : BatchState) → IsSome (read batch_step batch_finish state (batch_end state))
batch_ends b.File = refl
batch_ends b.Path = refl
batch_ends (b.Done path) = refl
