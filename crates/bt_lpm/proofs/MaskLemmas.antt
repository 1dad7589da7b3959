-- A loop that leaves the first bits of bytes.
use Rattle.std.proofs.Common.{◌≡◌, ℕ, suc, ◌+◌, ◌-◌, ◌<◌, ◌≤◌, min, List, [], ◌∷◌, ◌++◌, length, get_or, set, take, drop, refl, sym, ap, ap₂, ◌∙◌, append_assoc, append-nil, add-one, zero}
use Rattle.std.proofs.lemmas.List.{drop_more, take_more_set, take_all, drop_all}
use Rattle.bt_mapkind.specs.Prefix.{high_bits, masked}

drop_later : (bytes : List ℕ) (i x : ℕ) → drop (suc i) (set bytes i x) ≡ drop (suc i) bytes
drop_later [] i x = refl
drop_later (y ∷ bytes) zero x = refl
drop_later (y ∷ bytes) (suc i) x = drop_later bytes i x

pub mask_more : (bytes whole : List ℕ) (i n next bits x high : ℕ) → i < length bytes → x ≡ get_or bytes i 0 → bits ≡ min n 8 → high ≡ high_bits bits x → next ≡ n - 8 → take i bytes ++ masked n (drop i bytes) ≡ whole
    → take (i + 1) (set bytes i high) ++ masked next (drop (i + 1) (set bytes i high)) ≡ whole
mask_more bytes whole i n next bits x high within read few is left before =
    ap₂ (λ front rest. front ++ masked next rest) (take_more_set bytes i high within) (rw add-one (drop_later bytes i high))
    ∙ append_assoc (take i bytes) (high ∷ []) _
    ∙ ap (λ rest. take i bytes ++ rest)
    (ap₂ (λ h k. h ∷ masked k (drop (i + 1) bytes)) (is ∙ ap₂ high_bits few read) left ∙ sym (ap (masked n) (drop_more bytes i 0 within)))
    ∙ before

pub mask_end : (bytes whole : List ℕ) (i n : ℕ) → length bytes ≤ i → take i bytes ++ masked n (drop i bytes) ≡ whole → bytes ≡ whole
mask_end bytes whole i n past is = sym (ap₂ (λ front rest. front ++ masked n rest) (take_all i bytes past) (drop_all i bytes past) ∙ append-nil bytes) ∙ is
