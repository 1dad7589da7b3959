-- A part of a slice rotated by one: a row moved from one end of the part to the other.
use Rattle.std.proofs.Common.{◌≡◌, ℕ, ◌+◌, ◌-◌, ◌<◌, ◌≤◌, List, length, get_or, take, drop, sym, ap, ◌∙◌, arith, length-drop}
use Rattle.std.specs.List.{RotatedLeft, RotatedRight}
use Rattle.std.proofs.lemmas.List.{length-take-le, get_or-take, get_or-drop, get_or_append_left, get_or-append_right}
use borrow.Rule.Slice.PartMut.{put_mid}
use Rattle.map_order.specs.Blocks.{MovesUp}

-- a part of a list, and the list with another part in place of it
module _ (xs mid : List ℕ) (from count : ℕ) (within : from + count ≤ length xs) (long : length mid ≡ count) where
  part_long : length (take count (drop from xs)) ≡ count
  part_long = length-take-le count (drop from xs) (omega (arith, length-drop from xs))

  part_at : (k : ℕ) → k < count → get_or (take count (drop from xs)) k 0 ≡ get_or xs (from + k) 0
  part_at k lt = get_or-take count (drop from xs) k 0 lt ∙ get_or-drop from xs k 0

  front_long : length (take from xs) ≡ from
  front_long = length-take-le from xs (omega arith)

  put_below : (i : ℕ) → i < from → get_or (put_mid from count xs mid) i 0 ≡ get_or xs i 0
  put_below i lt = get_or_append_left (take from xs) _ 0 i (omega (arith, front_long)) ∙ get_or-take from xs i 0 lt

  put_at : (i : ℕ) → from ≤ i → i < from + count → get_or (put_mid from count xs mid) i 0 ≡ get_or mid (i - from) 0
  put_at i le lt = get_or-append_right (take from xs) _ from i 0 front_long le ∙ get_or_append_left mid _ 0 (i - from) (omega arith)

  put_above : (i : ℕ) → from + count ≤ i → get_or (put_mid from count xs mid) i 0 ≡ get_or xs i 0
  put_above i le =
      let there : from + (count + (i - from - count)) ≡ i = omega arith in
      get_or-append_right (take from xs) _ from i 0 front_long (omega arith)
      ∙ get_or-append_right mid _ count (i - from) 0 long (omega arith)
      ∙ get_or-drop count (drop from xs) (i - from - count) 0
      ∙ get_or-drop from xs (count + (i - from - count)) 0
      ∙ ap (λ k. get_or xs k 0) there

pub carried_up : (xs mid : List ℕ) (from to : ℕ) → from ≤ to → to < length xs → length mid ≡ length (take (to + 1 - from) (drop from xs))
    → RotatedLeft (take (to + 1 - from) (drop from xs)) mid (length (take (to + 1 - from) (drop from xs))) 1 → MovesUp (λ i. get_or xs i 0) (λ i. get_or (put_mid from (to + 1 - from) xs mid) i 0) from to
carried_up xs mid from to order within long turned =
    let count : ℕ = to + 1 - from in
    let inside : from + count ≤ length xs = omega arith in
    let part : length (take count (drop from xs)) ≡ count = part_long xs mid from count inside (long ∙ length-take-le count (drop from xs) (omega (arith, length-drop from xs))) in
    let whole : length mid ≡ count = long ∙ part in
    record {
      below = λ i lt. put_below xs mid from count inside whole i lt;
      between = λ i le lt.
          let there : from + (i - from + 1) ≡ i + 1 = omega arith in
          put_at xs mid from count inside whole i le (omega arith)
          ∙ turned.0 (i - from) 0 (omega (arith, part))
          ∙ part_at xs mid from count inside whole (i - from + 1) (omega arith)
          ∙ ap (λ k. get_or xs k 0) there;
      here =
          let zero_is : to - from + 1 - length (take count (drop from xs)) ≡ 0 = omega (arith, part) in
          let there : from + 0 ≡ from = omega arith in
          put_at xs mid from count inside whole to order (omega arith)
          ∙ turned.1 (to - from) 0 (omega (arith, part)) (omega (arith, part))
          ∙ ap (λ k. get_or (take count (drop from xs)) k 0) zero_is
          ∙ part_at xs mid from count inside whole 0 (omega arith)
          ∙ ap (λ k. get_or xs k 0) there;
      above = λ i lt. put_above xs mid from count inside whole i (omega arith);
    }

pub carried_down : (xs mid : List ℕ) (from to : ℕ) → to ≤ from → from < length xs → length mid ≡ length (take (from + 1 - to) (drop to xs))
    → RotatedRight (take (from + 1 - to) (drop to xs)) mid (length (take (from + 1 - to) (drop to xs))) 1 → MovesUp (λ i. get_or (put_mid to (from + 1 - to) xs mid) i 0) (λ i. get_or xs i 0) to from
carried_down xs mid from to order within long turned =
    let count : ℕ = from + 1 - to in
    let inside : to + count ≤ length xs = omega arith in
    let part : length (take count (drop to xs)) ≡ count = part_long xs mid to count inside (long ∙ length-take-le count (drop to xs) (omega (arith, length-drop to xs))) in
    let whole : length mid ≡ count = long ∙ part in
    record {
      below = λ i lt. sym (put_below xs mid to count inside whole i lt);
      between = λ i le lt.
          let there : to + (i + 1 - to - 1) ≡ i = omega arith in
          sym (put_at xs mid to count inside whole (i + 1) (omega arith) (omega arith)
          ∙ turned.1 (i + 1 - to) 0 (omega arith) (omega (arith, part))
          ∙ part_at xs mid to count inside whole (i + 1 - to - 1) (omega arith)
          ∙ ap (λ k. get_or xs k 0) there);
      here =
          let first : to - to ≡ 0 = omega arith in
          let last : to + (length (take count (drop to xs)) - 1 + 0) ≡ from = omega (arith, part) in
          sym (put_at xs mid to count inside whole to (omega arith) (omega arith)
          ∙ ap (λ k. get_or mid k 0) first
          ∙ turned.0 0 0 (omega arith)
          ∙ part_at xs mid to count inside whole (length (take count (drop to xs)) - 1 + 0) (omega (arith, part))
          ∙ ap (λ k. get_or xs k 0) last);
      above = λ i lt. sym (put_above xs mid to count inside whole i (omega arith));
    }
