-- Words that spell a range are no command of a script.
use Rattle.std.proofs.Common.{◌≡◌, ℕ, true, false, cond, List, [], ◌∷◌, refl, sym, ap, subst, Option, Some, None, Err, IsSome}
use Rattle.std.specs.Prelude.{codes}
use Rattle.std.specs.Option.{option_map, option_and_then}
use Rattle.std.specs.Str.{bytes_eq}
use Rattle.std.proofs.lemmas.Slice.Eq.{bytes_eq-Decides}
use Rattle.console_operand.specs.Number.{long_number_of}
use Rattle.console_operand.specs.Automaton.{outcome, onward}
use Rattle.bt_syntax.specs.Steps.{step, finish, told, words_read}
use Rattle.bt_syntax.specs.declared.command.State.TheVariants as s
use Rattle.bt_syntax.specs.declared.fault.SyntaxFault.TheVariants.{At}
use Rattle.bt_syntax.specs.declared.journal.JournalCommand.TheVariants as command
use Rattle.bt_syntax.specs.declared.journal.JournalState.TheVariants as j
use Rattle.kept_lines.specs.declared.range.SerialRange.{SerialRange}
use Rattle.kept_lines.specs.RangeGrammar.{last_in, serials_in, range_behind, range_in}

none_is : IsSome {T = SerialRange} None → ⊥
none_is h = cc

-- after two numbers
after_first : (first : ℕ) (words : List (List ℕ)) → IsSome (last_in first words) → outcome step finish (s.Journal (j.Done (command.Without first))) 3 words ≡ Err 4
after_first first [] h = absurd (none_is h)
after_first first (word ∷ []) h = refl
after_first first (word ∷ other ∷ words) h = absurd (none_is h)

with_first : (word : List ℕ) (words : List (List ℕ)) (first : Option ℕ) → long_number_of word ≡ first → IsSome (option_and_then (λ first. last_in first words) first) → told (onward (option_map s.Journal (option_map j.Done (option_map command.Without first))) 3 (λ next. outcome step finish next 3 words)) ≡ Err (At 4)
with_first word words None is h = absurd (none_is h)
with_first word words (Some first) is h = ap told (after_first first words h)

after_without : (words : List (List ℕ)) → IsSome (serials_in words) → words_read (codes "journal" ∷ codes "without" ∷ words) ≡ Err (At 4)
after_without [] h = absurd (none_is h)
after_without (word ∷ words) h = with_first word words (long_number_of word) refl h

after_journal : (words : List (List ℕ)) → IsSome (range_behind words) → words_read (codes "journal" ∷ words) ≡ Err (At 4)
after_journal [] h = absurd (none_is h)
after_journal (word ∷ words) h =
    elim (bytes_eq word (codes "without")) as (λ b. bytes_eq word (codes "without") ≡ b → IsSome (cond b (serials_in words) None) → words_read (codes "journal" ∷ word ∷ words) ≡ Err (At 4)) [
      | true ↦ λ same some. subst (λ w. words_read (codes "journal" ∷ w ∷ words) ≡ Err (At 4)) (sym ((bytes_eq-Decides word (codes "without")).0 same)) (after_without words some)
      | false ↦ λ _ some. absurd (none_is some)
    ] refl h

pub range_no_command : (words : List (List ℕ)) → IsSome (range_in words) → words_read words ≡ Err (At 4)
range_no_command [] h = absurd (none_is h)
range_no_command (word ∷ words) h =
    elim (bytes_eq word (codes "journal")) as (λ b. bytes_eq word (codes "journal") ≡ b → IsSome (cond b (range_behind words) None) → words_read (word ∷ words) ≡ Err (At 4)) [
      | true ↦ λ same some. subst (λ w. words_read (w ∷ words) ≡ Err (At 4)) (sym ((bytes_eq-Decides word (codes "journal")).0 same)) (after_journal words some)
      | false ↦ λ _ some. absurd (none_is some)
    ] refl h
