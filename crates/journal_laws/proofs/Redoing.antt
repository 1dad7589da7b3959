-- So many redos directly after an undo of so many moments give back what was undone.
use Rattle.std.proofs.Common.{◌≡◌, ℕ, ◌-◌, ◌≤◌, Bool, true, false, cond, List, [], ◌∷◌, ◌++◌, length, take, drop, reverse, replicate, refl, sym, ◌∙◌, ap, subst, arith}
use Rattle.std.specs.Prelude.{nat_le, Result, Ok, Err, Option, Some, None}
use Rattle.std.proofs.lemmas.Bool.{leb-true, le-leb}
use Rattle.std.proofs.lemmas.List.{reverse-append, reverse-reverse, append_assoc, take-append-drop, length-reverse, length-take-le}
use Rattle.journal_model.specs.declared.faults.NothingToUndo.{NothingToUndo}
use Rattle.journal_model.specs.declared.faults.RedoFault.{RedoFault}
use Rattle.journal_model.specs.Plain.{Past, Pasts}
use Rattle.journal_model.specs.Marks.{moments_at}
use Rattle.journal_model.specs.Book.{PlainBook, back_to, brought_back, redo_fault, redone, undone_from}
use Rattle.journal_model.specs.Run.{PlainAnswer, Redone, bookrun}
use Rattle.journal_laws.specs.Laws.{redos, BringsBack, RedoesUndo, RedoesUndoLast}

-- the book with other moments
with_line : PlainBook → Pasts → PlainBook
with_line b p = record b { line = p }

-- undone moments come back one by one, each onto the one before it
abbrev IsBackAfter : PlainBook → ℕ → Pasts → Type 0
IsBackAfter b n p = ((bookrun b (redos n)).1 ≡ replicate n (Redone (Ok tt))) × ((bookrun b (redos n)).0.line ≡ p)

redo_once : (b : PlainBook) (u : Past) (us : List Past) → b.line.undone ≡ u ∷ us → redone b ≡ (brought_back b, Ok tt)
redo_once b u us e =
    let any : nat_le 1 (length b.line.undone) ≡ true = le-leb 1 (length b.line.undone) (omega (arith, ap length e)) in
    ap (λ t. let made : PlainBook × Result (Unit {0}) RedoFault = cond t (brought_back b, Ok tt) (b, Err (redo_fault b.gave_up)) in made) any

come_back : (b : PlainBook) (zs vs : List Past) → b.line.undone ≡ zs ++ vs → IsBackAfter b (length zs) (record { base = b.line.base; moments = reverse zs ++ b.line.moments; undone = vs })
come_back b [] vs e = (refl, ap (λ us. let p : Pasts = record { base = b.line.base; moments = b.line.moments; undone = us } in p) e)
come_back b (z ∷ zs) vs e =
    let c : PlainBook = brought_back b in
    let once : redone b ≡ (c, Ok tt) = redo_once b z (zs ++ vs) e in
    let rest : IsBackAfter c (length zs) (record { base = c.line.base; moments = reverse zs ++ c.line.moments; undone = vs }) = come_back c zs vs (ap (drop 1) e) in
    let moments : c.line.moments ≡ z ∷ b.line.moments = ap (λ us. take 1 us ++ b.line.moments) e in
    let flat : reverse zs ++ c.line.moments ≡ reverse (z ∷ zs) ++ b.line.moments =
    ap (λ ms. reverse zs ++ ms) moments ∙ sym (ap (λ ms. ms ++ b.line.moments) (reverse-append (z ∷ []) zs) ∙ append_assoc (reverse zs) (z ∷ []) b.line.moments) in (
      ap (λ made. let r : List PlainAnswer = Redone made.1 ∷ (bookrun made.0 (redos (length zs))).1 in r) once ∙ ap (λ answers. Redone (Ok tt) ∷ answers) rest.0,
      ap (λ made. (bookrun made.0 (redos (length zs))).0.line) once ∙ rest.1 ∙ ap (λ ms. let p : Pasts = record { base = b.line.base; moments = ms; undone = vs } in p) flat,
    )

-- the moments past a number come back onto the others
brings_back : (b : PlainBook) (count n : ℕ) → length b.line.moments - count ≡ n → BringsBack b (back_to b count) n
brings_back b count n e =
    let past : ℕ = length b.line.moments - count in
    let zs : List Past = reverse (take past b.line.moments) in
    let long : length zs ≡ n = length-reverse (take past b.line.moments) ∙ length-take-le past b.line.moments (omega arith) ∙ e in
    let back : IsBackAfter (back_to b count) (length zs) (record { base = b.line.base; moments = reverse zs ++ drop past b.line.moments; undone = b.line.undone }) =
    come_back (back_to b count) zs b.line.undone refl in
    let whole : reverse zs ++ drop past b.line.moments ≡ b.line.moments =
    ap (λ ms. ms ++ drop past b.line.moments) (reverse-reverse (take past b.line.moments)) ∙ take-append-drop past b.line.moments in
    let at_n : IsBackAfter (back_to b count) n (record { base = b.line.base; moments = reverse zs ++ drop past b.line.moments; undone = b.line.undone }) =
    subst (λ k. IsBackAfter (back_to b count) k (record { base = b.line.base; moments = reverse zs ++ drop past b.line.moments; undone = b.line.undone })) long back in
    record {
      answers = at_n.0;
      line = at_n.1 ∙ ap (λ ms. let p : Pasts = record { base = b.line.base; moments = ms; undone = b.line.undone } in p) whole;
    }

pub redoes_undo : (b : PlainBook) (name : List ℕ) (n : ℕ) → RedoesUndo b name n
redoes_undo b name n = from (moments_at name b.marks)
  where
    from : (o : Option ℕ) → (undone_from b name o).1 ≡ Ok n → BringsBack b (undone_from b name o).0 n
    from None e = cc
    from (Some count) e = brings_back b count n cc

pub redoes_undo_last : (b : PlainBook) → RedoesUndoLast b
redoes_undo_last b = last (nat_le 1 (length b.line.moments)) refl
  where
    last : (any : Bool) → nat_le 1 (length b.line.moments) ≡ any →
        let made : PlainBook × Result (Unit {0}) NothingToUndo = cond any (back_to b (length b.line.moments - 1), Ok tt) (b, Err (record {})) in
        made.1 ≡ Ok tt → BringsBack b made.0 1
    last true any e = let some : 1 ≤ length b.line.moments = leb-true 1 (length b.line.moments) any in brings_back b (length b.line.moments - 1) 1 (omega arith)
    last false any e = cc
