-- Places of events: what the next one is, and that an event under it stands last.
use Rattle.std.proofs.Common.{◌≡◌, ℕ, ◌+◌, ◌+ℤ◌, ◌<◌, pos, List, [], ◌∷◌, ◌++◌, length, ap, ◌∙◌, arith, Less, fold}
use Rattle.std.proofs.lemmas.Bool.Decides.{nat_tests}
use Rattle.sqlite_value.specs.declared.value.Value.TheVariants.{Int}
use Rattle.sqlite_value.specs.Order.{value_cmp}
use Rattle.sqlite_value.proofs.OrderLemmas.{value_cmp-Int}
use Rattle.sqlite_trees.specs.Tree.{put_row, rowid}
use Rattle.sqlite_rules.specs.Edit.{next_rowid, id_in}
use Rattle.kept_ledger.specs.Ledger.{Entry, stored, rows_from}

next_from : (k : ℕ) (es : List Entry) → fold (λ _ r. id_in (rowid r) +ℤ pos 1) (pos k) (rows_from k es) ≡ pos (k + length es)
next_from k [] = ap pos (omega arith)
next_from k (e ∷ es) = next_from (k + 1) es ∙ ap pos (omega arith)

pub next_place : (es : List Entry) → next_rowid (rows_from 1 es) ≡ pos (1 + length es)
next_place = next_from 1

pub below : (a b : ℕ) → a < b → value_cmp (Int (pos a)) (Int (pos b)) ≡ Less
below a b h = value_cmp-Int (pos a) (pos b) ∙ grind (arith, nat_tests)

pub put_last : (k n : ℕ) (e : Entry) (es : List Entry) → k + length es ≡ n → put_row (stored n e) (rows_from k es) ≡ rows_from k (es ++ e ∷ [])
put_last k n e [] h = ap (λ m. stored m e ∷ []) (omega (arith, h))
put_last k n e (first ∷ es) h =
    rw (below k n (omega (arith, h))) (ap (λ rows. stored k first ∷ rows) (put_last (k + 1) n e es (omega (arith, h))))
