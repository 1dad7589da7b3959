-- An undo of several moments, one after the other, and how many calls of boxes it takes.
use Rattle.std.proofs.Common.{◌≡◌, ℕ, suc, ◌+◌, ◌-◌, ◌<◌, ◌≤◌, List, [], ◌∷◌, ◌++◌, length, take, drop, reverse, sym, ◌∙◌, ap, arith}
use Rattle.std.proofs.lemmas.List.{reverse-append, append_assoc}
use Rattle.host_state.specs.State.{State}
use Rattle.journal_model.specs.Plain.{Past, Pasts, newest_force, one_back, cut}
use Rattle.journal_timeline.specs.Calls.{calls_back, calls_of}

-- one moment less to cut
pub cut-back : (count : ℕ) (p : Pasts) → count < length p.moments → cut count (one_back p) ≡ cut count p
cut-back count p h = cut_back_of count p.base p.moments p.undone h
  where
    cut_back_of : (count : ℕ) (base : State) (ms us : List Past) → count < length ms → cut count (one_back (record { base = base; moments = ms; undone = us })) ≡ cut count (record { base = base; moments = ms; undone = us })
    cut_back_of count base [] us h = absurd (omega (arith, h))
    cut_back_of count base (m ∷ ms) us h =
        let n : ℕ = length ms - count in
        let e : suc (length ms) - count ≡ suc n = omega (arith, h) in
        let flat : (reverse (take n ms) ++ m ∷ us) ≡ reverse (m ∷ take n ms) ++ us =
        sym (ap (λ xs. xs ++ us) (reverse-append (m ∷ []) (take n ms)) ∙ append_assoc (reverse (take n ms)) (m ∷ []) us) in
        ap (λ xs. let q : Pasts = record { base = base; moments = drop n ms; undone = xs } in q) flat
        ∙ sym (ap (λ k. let q : Pasts = record { base = base; moments = drop k (m ∷ ms); undone = reverse (take k (m ∷ ms)) ++ us } in q) e)

-- nothing left to cut
pub cut_none : (count : ℕ) (p : Pasts) → length p.moments ≤ count → cut count p ≡ p
cut_none count p h =
    let e : length p.moments - count ≡ 0 = omega (arith, h) in
    ap (λ k. let q : Pasts = record { base = p.base; moments = drop k p.moments; undone = reverse (take k p.moments) ++ p.undone } in q) e

-- the newest of them, and then the others
pub one_more_back : (count : ℕ) (ms : List Past) → count < length ms → calls_back (length ms - count) ms ≡ calls_back 1 ms + calls_back (length (drop 1 ms) - count) (drop 1 ms)
one_more_back count [] h = absurd (omega (arith, h))
one_more_back count (m ∷ ms) h =
    let k : ℕ = length ms - count in
    let here : ℕ = calls_of (newest_force ms) m in
    let rest : ℕ = calls_back k ms in
    let many : suc (length ms) - count ≡ suc k = omega (arith, h) in
    let sum : here + rest ≡ (here + 0) + rest = omega arith in
    ap (λ n. calls_back n (m ∷ ms)) many ∙ sum
