-- The past is given up alone, or it is told why not.
use Rattle.std.proofs.Common.{◌≡◌, ℕ, ◌<◌, ◌≤◌, Bool, true, false, cond, inl, inr, List, [], ◌∷◌, ◌++◌, take, reverse, refl, sym, ◌∙◌, ap, subst, arith}
use Rattle.std.specs.Prelude.{Option, None, Some, Err}
use Rattle.std.proofs.lemmas.List.{reverse-append, reverse-reverse}
use Rattle.journal_model.specs.declared.faults.ForgetFault.TheVariants.{NoMark, MarkForgotten}
use Rattle.journal_model.specs.Replay.{Entry}
use Rattle.journal_model.specs.Plain.{Past}
use Rattle.journal_model.specs.Marks.{moments_at, is_among_names}
use Rattle.journal_model.specs.Book.{PlainBook, back_to, undone_from}
use Rattle.journal_model.specs.Force.{is_in_force}
use Rattle.journal_model.specs.Forget.{forgotten_unless, forgotten_from}
use Rattle.journal_model.specs.Rebase.{or_else, taken_from, first_taken_from, still_taken_out}
use Rattle.journal_model.specs.Well.{EachPair, IsWellBook}
use Rattle.journal_laws.specs.Laws.{TookFrom, IsFirstToTake, IsForgetting, ForgetsThePastAlone}
use Rattle.journal_model.proofs.Lists.{Each-map, EachPair-front, EachPair-reverse}
use Rattle.journal_invariant.proofs.Advanced.{behind, earlier, later, taken_in, parts}
use Rattle.journal_invariant.proofs.Following.{Spares, spares}
use Rattle.journal_invariant.proofs.Forgetting.{keeps_what_is_later}

-- ---- one moment
pub taken_out_of : (force : List Entry) (m : Past) (serial : ℕ) (out : Option ℕ) → m.out ≡ out → taken_from force m.serial out ≡ Some serial → (m.serial ≡ serial) × TookFrom force m
taken_out_of force m serial None is e = cc
taken_out_of force m serial (Some out) is e = by (is_in_force out force) refl e
  where
    by : (b : Bool) → is_in_force out force ≡ b → cond b (Some m.serial) None ≡ Some serial → (m.serial ≡ serial) × TookFrom force m
    by true there f = (cc, (out, is, there))
    by false there f = cc

spared : (force : List Entry) (m : Past) → Spares force m → TookFrom force m → ⊥
spared force m none took = cc (sym none ∙ ap (taken_from force m.serial) took.1 ∙ ap (λ b. cond b (Some m.serial) None) took.2)

-- ---- moments that rise in serials
abbrev Rise : List Past → Type 0
Rise ms = EachPair (λ (older newer : Past). older.serial < newer.serial) ms

first_to_take : (force : List Entry) (ms : List Past) (serial : ℕ) → Rise ms → first_taken_from force ms ≡ Some serial → IsFirstToTake serial force ms
first_to_take force [] serial rise e = cc
first_to_take force (m ∷ ms) serial rise e = by (taken_from force m.serial m.out) refl e (first_to_take force ms serial rise.1)
  where
    by : (o : Option ℕ) → taken_from force m.serial m.out ≡ o → or_else o (first_taken_from force ms) ≡ Some serial → (first_taken_from force ms ≡ Some serial → IsFirstToTake serial force ms) → IsFirstToTake serial force (m ∷ ms)
    by None none f rest =
        let r : IsFirstToTake serial force ms = rest f in
        record { one = inr r.one; first = ((λ took. absurd (spared force m none took)), r.first) }
    by (Some told) is f rest =
        let here : (m.serial ≡ serial) × TookFrom force m = taken_out_of force m serial m.out refl (is ∙ f) in
        let same : m.serial ≡ serial = here.0 in
        record {
          one = inl here;
          first = ((λ took. omega arith), Each-map (λ (y : Past). m.serial < y.serial) (λ (y : Past). TookFrom force y → serial ≤ y.serial) ms (λ y above took. omega arith) rise.0);
        }

-- ---- a book
-- the moments after a number, the oldest first
turned : (b : PlainBook) (count : ℕ) → reverse (later count b.line) ≡ reverse (take (behind count b.line) b.line.moments) ++ b.line.undone
turned b count =
    let ahead : List Past = take (behind count b.line) b.line.moments in
    reverse-append (reverse b.line.undone) ahead ∙ ap (λ us. reverse ahead ++ us) (reverse-reverse b.line.undone)

behind_rises : (b : PlainBook) → IsWellBook b → (count : ℕ) → Rise (back_to b count).line.undone
behind_rises b w count =
    subst Rise (turned b count)
    (EachPair-reverse (λ (newer older : Past). older.serial < newer.serial) (later count b.line)
    (EachPair-front (λ (newer older : Past). older.serial < newer.serial) (later count b.line) (earlier count b.line)
    (subst (EachPair (λ (newer older : Past). older.serial < newer.serial)) (parts count b.line) w.rising)))

pub forgets_the_past_alone : (b : PlainBook) (name : List ℕ) → ForgetsThePastAlone b name
forgets_the_past_alone b name w = from (moments_at name b.marks) refl
  where
    unless : (count : ℕ) (o : Option ℕ) → still_taken_out count b.line ≡ o → IsForgetting b (back_to b count) name (forgotten_unless o b count).0 (forgotten_unless o b count).1
    unless count (Some serial) e = (refl, first_to_take (taken_in count b.line) (back_to b count).line.undone serial (behind_rises b w count) e)
    unless count None e = (
      keeps_what_is_later b w count e,
      Each-map (Spares (taken_in count b.line)) (λ (m : Past). TookFrom (taken_in count b.line) m → ⊥) (back_to b count).line.undone (spared (taken_in count b.line)) (spares (taken_in count b.line) (back_to b count).line.undone e),
    )

    missing : (lost : Bool) → is_among_names name b.forgotten_marks ≡ lost → moments_at name b.marks ≡ None → IsForgetting b b name b (Err (cond lost MarkForgotten NoMark))
    missing true lost none = (refl, (none, lost))
    missing false lost none = (refl, (none, lost))

    from : (o : Option ℕ) → moments_at name b.marks ≡ o → IsForgetting b (undone_from b name o).0 name (forgotten_from b name o).0 (forgotten_from b name o).1
    from None e = missing (is_among_names name b.forgotten_marks) refl e
    from (Some count) e = unless count (still_taken_out count b.line) refl
