-- The keys of a map rise from each to the next.
use Rattle.std.proofs.Common.{◌≡◌, ℕ, zero, suc, ◌+◌, ◌<◌, ◌≤◌, List, [], ◌∷◌, length, slice_get, Some, None, refl, ap, sym, subst, ◌∙◌, arith, map as each, T}
use Rattle.std.specs.List.{enumerate_from}
use Rattle.std.specs.Ordering.{nat_cmp, is_lt}
use Rattle.std.specs.declared.cmp.Ordering.{Ordering}
use Rattle.std.specs.declared.cmp.Ordering.TheVariants.{Less, Equal, Greater}
use Rattle.std.specs.Cmp.Lexicographic.{slice_cmp}
use Rattle.std.specs.FinMap as map
use Rattle.std.specs.FinMap.Entries.{is_sorted, below_all}
use Rattle.bt_mapkind.specs.declared.attr.MapAttr.{MapAttr}
use Rattle.bt_mapkind.specs.Contents.{Contents, Values, Entries, Items, Slots, Links}
use Rattle.bt_mapkind.specs.Index.{index_of}
use Rattle.bt_mapkind.specs.Read.{key_of_index}
use Rattle.map_laws.specs.Walk.{index_keys}
use Rattle.map_laws.specs.Laws.{KeysRise}
use Rattle.map_laws.proofs.Walked.{key_part, left_of, right_of, index_of-key_of_index, three, within_of}

none_some : {X P : Type 0} {x : X} → None ≡ Some x → P
none_some e = cc

same_some : {X : Type 0} (x y : X) → Some x ≡ Some y → x ≡ y
same_some x y e = cc

-- ---- stored keys
less_of : (o : Ordering) → T (is_lt o) → o ≡ Less
less_of Less h = refl
less_of Equal h = absurd h
less_of Greater h = absurd h

below_at : {X : Type 0} (key : List ℕ) (es : List (List ℕ × X)) (j : ℕ) (other : List ℕ) → T (below_all (slice_cmp nat_cmp) key es) → slice_get (key_part es) j ≡ Some other → slice_cmp nat_cmp key other ≡ Less
below_at key [] j other h e = none_some e
below_at key (p ∷ es) zero other h e = ap (slice_cmp nat_cmp key) (sym (same_some p.0 other e)) ∙ less_of _ (left_of _ _ h)
below_at key (p ∷ es) (suc j) other h e = below_at key es j other (right_of _ _ h) e

sorted_rise : {X : Type 0} (es : List (List ℕ × X)) (i j : ℕ) (key other : List ℕ) → T (is_sorted (slice_cmp nat_cmp) es) → slice_get (key_part es) i ≡ Some key → slice_get (key_part es) j ≡ Some other → i < j → slice_cmp nat_cmp key other ≡ Less
sorted_rise [] i j key other h e f below = none_some e
sorted_rise (p ∷ es) zero zero key other h e f below = absurd (omega arith)
sorted_rise (p ∷ es) zero (suc j) key other h e f below =
    ap (λ k. slice_cmp nat_cmp k other) (sym (same_some p.0 key e)) ∙ below_at p.0 es j other (left_of _ _ h) f
sorted_rise (p ∷ es) (suc i) zero key other h e f below = absurd (omega arith)
sorted_rise (p ∷ es) (suc i) (suc j) key other h e f below = sorted_rise es i j key other (right_of _ _ h) e f (omega arith)

-- ---- indices
record IsIndexKey (first n i : ℕ) (key : List ℕ) : Type 0 where
  is : key ≡ key_of_index (first + i)
  below : i < n

index_key : {X : Type 0} (xs : List X) (first i : ℕ) (key : List ℕ) → slice_get (each (λ e. key_of_index e.0) (enumerate_from first xs)) i ≡ Some key → IsIndexKey first (length xs) i key
index_key [] first i key e = none_some e
index_key (x ∷ xs) first zero key e =
    record { is = sym (same_some _ key e) ∙ ap key_of_index (plus_zero first); below = omega arith }
  where
    plus_zero : (k : ℕ) → k ≡ k + 0
    plus_zero k = omega arith
index_key (x ∷ xs) first (suc i) key e =
    let k = index_key xs (first + 1) i key e in
    let below : i < length xs = k.below in
    record { is = k.is ∙ ap key_of_index (carried first i); below = omega arith }
  where
    carried : (k n : ℕ) → k + 1 + n ≡ k + suc n
    carried k n = omega arith

index_at : {X : Type 0} (xs : List X) (i : ℕ) (key : List ℕ) → length xs ≤ 65536 → slice_get (index_keys xs) i ≡ Some key → index_of key ≡ i
index_at xs i key le e =
    let k = index_key xs 0 i key e in
    let below : i < length xs = k.below in
    ap index_of k.is ∙ index_of-key_of_index (0 + i) (omega arith) ∙ plus i
  where
    plus : (n : ℕ) → 0 + n ≡ n
    plus n = omega arith

indices_rise : {X : Type 0} (xs : List X) (i j : ℕ) (key other : List ℕ) → length xs ≤ 65536 → slice_get (index_keys xs) i ≡ Some key → slice_get (index_keys xs) j ≡ Some other → i < j → index_of key < index_of other
indices_rise xs i j key other le e f below = omega (arith, index_at xs i key le e, index_at xs j other le f)

pub keys_rise : (a : MapAttr) (c : Contents) (i j : ℕ) (key other : List ℕ) → KeysRise a c i j key other
keys_rise a (Values vs) i j key other w g e f below =
    indices_rise vs i j key other (subst (λ n. n ≤ 65536) (sym w.sizes.0) (within_of 1 65536 a.max_entries (three _ _ _ g).1)) e f below
keys_rise a (Entries m) i j key other w g e f below = sorted_rise (map.entries m) i j key other (map.entries_sorted m) e f below
keys_rise a (Items xs) i j key other w g e f below = none_some e
keys_rise a (Slots ls) i j key other w g e f below =
    indices_rise ls i j key other (subst (λ n. n ≤ 65536) (sym w.sizes) (within_of 1 65536 a.max_entries (three _ _ _ g).1)) e f below
keys_rise a (Links m) i j key other w g e f below = sorted_rise (map.entries m) i j key other (map.entries_sorted m) e f below
