-- A line runs a batch just when its words are `batch file` and a path, and names a file only after `prog` or `batch`.
use Rattle.std.proofs.Common.{◌≡◌, ℕ, ◌≤◌, true, false, cond, List, [], ◌∷◌, length, refl, sym, ◌∙◌, ap, subst, Option, Some, None, Result, Ok, Err}
use Rattle.std.specs.Prelude.{codes, nat_lt, IfOk, IfSome}
use Rattle.std.specs.Str.{bytes_eq}
use Rattle.std.proofs.lemmas.Bool.{le-ltb}
use Rattle.console_operand.specs.Word.{words}
use Rattle.bt_syntax.specs.Files.{file_named, file_in, batch_of, batch_in}
use Rattle.bt_syntax.specs.Grammar.{Spells}
use Rattle.bt_syntax.specs.Grammar as g
use Rattle.bt_syntax.specs.Steps.{words_read, line_read}
use Rattle.bt_syntax.specs.declared.command.Command.{Command}
use Rattle.bt_syntax.specs.declared.fault.SyntaxFault.{SyntaxFault}
use Rattle.bt_syntax.specs.declared.fault.SyntaxFault.TheVariants.{TooLong}
use Rattle.bt_syntax.proofs.LineRead.{told_command}
use Rattle.bt_syntax.proofs.NeedsRead.{itself}

-- the words of a batch
abbrev pub batch_words : List ℕ → List (List ℕ)
batch_words path = codes "batch" ∷ codes "file" ∷ path ∷ []

spelled_batch : {ws : List (List ℕ)} {command : Command} (path : List ℕ) → Spells ws command → batch_of command ≡ Some path → ws ≡ batch_words path
spelled_batch path (g.map it) h = cc
spelled_batch path (g.prog it) h = cc
spelled_batch path (g.net it) h = cc
spelled_batch path (g.batch {path = named}) h = ap batch_words (some_same h)
  where
    some_same : Some named ≡ Some path → named ≡ path
    some_same e = cc
spelled_batch path g.unpin h = cc
spelled_batch path (g.frame it) h = cc
spelled_batch path (g.run it) h = cc
spelled_batch path (g.journal it) h = cc

read_batch : (r : Result (Option Command) SyntaxFault) (ws : List (List ℕ)) (path : List ℕ) → IfOk r (λ found. IfSome found (Spells ws)) → batch_in r ≡ Some path → ws ≡ batch_words path
read_batch (Ok None) ws path spelled h = cc
read_batch (Ok (Some command)) ws path spelled h = spelled_batch path spelled h
read_batch (Err e) ws path spelled h = cc

short_read : (line : List ℕ) → length line ≤ 131072 → line_read line ≡ words_read (words line)
short_read line limit = ap (λ b. cond b (Err TooLong) (words_read (words line))) (le-ltb 131072 (length line) limit)

-- words of a batch run it
pub runs_batch : (line path : List ℕ) → length line ≤ 131072 → words line ≡ batch_words path → Some path ≡ batch_in (line_read line)
runs_batch line path limit are = sym (ap batch_in (short_read line limit) ∙ ap (λ ws. batch_in (words_read ws)) are)

-- no others do
pub runs_none : (line : List ℕ) → length line ≤ 131072 → ((path : List ℕ) → words line ≡ batch_words path → ⊥) → None ≡ batch_in (line_read line)
runs_none line limit other = sym (ap batch_in (short_read line limit) ∙ by (batch_in (words_read (words line))) refl)
  where
    by : (o : Option (List ℕ)) → batch_in (words_read (words line)) ≡ o → batch_in (words_read (words line)) ≡ None
    by None e = e
    by (Some path) e = absurd (other path (read_batch (words_read (words line)) (words line) path (told_command (words_read (words line)) (words line) (itself (words_read (words line)))) e))

-- ---- a line whose first word is neither `prog` nor `batch`
abbrev IsOther : List ℕ → Type 0
IsOther word = (bytes_eq word (codes "prog") ≡ false) × (bytes_eq word (codes "batch") ≡ false)

spelled_other : {ws : List (List ℕ)} {command : Command} (word : List ℕ) (rest : List (List ℕ)) → Spells ws command → ws ≡ word ∷ rest → IsOther word → file_named command ≡ None
spelled_other word rest (g.map it) is other = refl
spelled_other word rest (g.prog it) is other = let first : codes "prog" ≡ word = cc in absurd (cc (subst IsOther (sym first) other).0)
spelled_other word rest (g.net it) is other = refl
spelled_other word rest g.batch is other = let first : codes "batch" ≡ word = cc in absurd (cc (subst IsOther (sym first) other).1)
spelled_other word rest g.unpin is other = refl
spelled_other word rest (g.frame it) is other = refl
spelled_other word rest (g.run it) is other = refl
spelled_other word rest (g.journal it) is other = refl

read_other : (r : Result (Option Command) SyntaxFault) (ws : List (List ℕ)) (word : List ℕ) (rest : List (List ℕ)) → IfOk r (λ found. IfSome found (Spells ws)) → ws ≡ word ∷ rest → IsOther word → file_in r ≡ None
read_other (Ok None) ws word rest spelled is other = refl
read_other (Ok (Some command)) ws word rest spelled is other = spelled_other word rest spelled is other
read_other (Err e) ws word rest spelled is other = refl

pub names_none : (line word : List ℕ) (rest : List (List ℕ)) → words line ≡ word ∷ rest → bytes_eq word (codes "prog") ≡ false → bytes_eq word (codes "batch") ≡ false → file_in (line_read line) ≡ None
names_none line word rest are no_prog no_batch =
    elim (nat_lt 131072 (length line)) as (λ long. file_in (cond long (Err TooLong) (words_read (words line))) ≡ None) [
      | true ↦ refl
      | false ↦ read_other (words_read (words line)) (words line) word rest (told_command (words_read (words line)) (words line) (itself (words_read (words line)))) are (no_prog, no_batch)
    ]
