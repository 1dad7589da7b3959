-- Moments that were undone are brought back one after the other, and all of them are there again.
use Rattle.std.proofs.Common.{◌≡◌, ℕ, zero, suc, ◌-◌, ◌<◌, ◌≤◌, List, [], ◌∷◌, ◌++◌, length, take, drop, reverse, refl, sym, ◌∙◌, ap, arith}
use Rattle.std.proofs.lemmas.List.{reverse-append, reverse-reverse, append_assoc, length-reverse, length-append, length-take-le, take-append-drop, length-drop}
use Rattle.std.proofs.Math.Seq.{take-append_seam, drop-append_seam}
use Rattle.host_state.specs.State.{State}
use Rattle.journal_model.specs.Plain.{Past, Pasts, one_forth, cut}
use Rattle.journal_model.specs.Rebase.{forth_by}

-- one moment less to bring back
pub forth_left : (left : ℕ) (p : Pasts) → 0 < left → left ≤ length p.undone → forth_by (left - 1) (one_forth p) ≡ forth_by left p
forth_left left p some within = of_lists left p.base p.moments p.undone some within
  where
    of_lists : (left : ℕ) (base : State) (ms us : List Past) → 0 < left → left ≤ length us
        → forth_by (left - 1) (one_forth (record { base = base; moments = ms; undone = us })) ≡ forth_by left (record { base = base; moments = ms; undone = us })
    of_lists left base ms [] some within = absurd (omega (arith, some, within))
    of_lists zero base ms (u ∷ us) some within = absurd (omega (arith, some))
    of_lists (suc k) base ms (u ∷ us) some within =
        let less : suc k - 1 ≡ k = omega arith in
        let flat : (reverse (take k us) ++ u ∷ ms) ≡ reverse (u ∷ take k us) ++ ms =
        sym (ap (λ xs. xs ++ ms) (reverse-append (u ∷ []) (take k us)) ∙ append_assoc (reverse (take k us)) (u ∷ []) ms) in
        ap (λ n. let q : Pasts = record { base = base; moments = reverse (take n us) ++ u ∷ ms; undone = drop n us } in q) less
        ∙ ap (λ xs. let q : Pasts = record { base = base; moments = xs; undone = drop k us } in q) flat

-- those that are left are still undone
pub undone_left : (left : ℕ) (p : Pasts) → left ≤ length p.undone → left - 1 ≤ length (one_forth p).undone
undone_left left p within = omega (arith, within, length-drop 1 p.undone)

-- none is brought back
pub forth_none : (p : Pasts) → forth_by 0 p ≡ p
forth_none p = refl

-- so many are undone
pub cut_undone : (count : ℕ) (p : Pasts) → length p.moments - count ≤ length (cut count p).undone
cut_undone count p =
    let past = length p.moments - count in
    let within : past ≤ length p.moments = omega arith in
    omega (arith, length-append (reverse (take past p.moments)) p.undone, length-reverse (take past p.moments), length-take-le past p.moments within)

-- what was undone is brought back
pub forth_cut : (count : ℕ) (p : Pasts) → forth_by (length p.moments - count) (cut count p) ≡ p
forth_cut count p =
    let past = length p.moments - count in
    let later : List Past = take past p.moments in
    let within : past ≤ length p.moments = omega arith in
    let many : length (reverse later) ≡ past = length-reverse later ∙ length-take-le past p.moments within in
    let taken : take past (reverse later ++ p.undone) ≡ reverse later = ap (λ n. take n (reverse later ++ p.undone)) (sym many) ∙ take-append_seam (reverse later) p.undone in
    let dropped : drop past (reverse later ++ p.undone) ≡ p.undone = ap (λ n. drop n (reverse later ++ p.undone)) (sym many) ∙ drop-append_seam (reverse later) p.undone in
    let moments : reverse (take past (reverse later ++ p.undone)) ++ drop past p.moments ≡ p.moments =
    ap (λ xs. reverse xs ++ drop past p.moments) taken ∙ ap (λ xs. xs ++ drop past p.moments) (reverse-reverse later) ∙ take-append-drop past p.moments in
    λ i. record { base = p.base; moments = moments i; undone = dropped i }
