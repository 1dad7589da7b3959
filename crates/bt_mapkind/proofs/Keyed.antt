-- Finite maps from keys of bytes: what stands under a key after a change, how many entries there are, and exchanges.
use Rattle.std.proofs.Common.{◌≡◌, ℕ, zero, suc, ◌+◌, ◌-◌, ◌<◌, ◌≤◌, Bool, true, false, ◌||◌, nat_lt, List, Option, Some, None, cond, is_some, sym, refl, ap, ◌∙◌, arith, subst}
use Rattle.std.proofs.lemmas.Bool.Decides.{nat_tests}
use Rattle.std.specs.Ordering.{nat_cmp, is_eq}
use Rattle.std.specs.declared.cmp.Ordering.{Ordering}
use Rattle.std.specs.declared.cmp.Ordering.TheVariants.{Less, Equal, Greater}
use Rattle.std.specs.Cmp.Lexicographic.{slice_cmp, nat_list_cmp_total}
use Rattle.std.specs.Cmp.{tied_itself}
use Rattle.std.specs.FinMap as map
use Rattle.std.specs.FinMap.{nat_cmp-IsAntisymmetric, slice_cmp-IsAntisymmetric}
use Rattle.bt_mapkind.specs.declared.attr.MapAttr.{MapAttr}
use Rattle.bt_mapkind.specs.Contents.{ByKey}
use Rattle.bt_mapkind.specs.Prefix.{is_same}
use Rattle.bt_mapkind.specs.Exchange.{put_under, has_room}
use Rattle.bt_mapkind.specs.Well.{EachEntry}

-- ---- the same bytes
pub is_same-itself : (xs : List ℕ) → is_same xs xs ≡ true
is_same-itself xs = ap is_eq (tied_itself nat_list_cmp_total xs)

tied_of : (xs ys : List ℕ) → is_same xs ys ≡ true → slice_cmp nat_cmp xs ys ≡ Equal
tied_of xs ys e = of (slice_cmp nat_cmp xs ys) e
  where
    of : (o : Ordering) → is_eq o ≡ true → o ≡ Equal
    of Less e = cc
    of Equal e = refl
    of Greater e = cc

pub same_of : (xs ys : List ℕ) → is_same xs ys ≡ true → xs ≡ ys
same_of xs ys e = slice_cmp-IsAntisymmetric nat_cmp-IsAntisymmetric xs ys (tied_of xs ys e)

-- ---- what stands under a key
pub get-put_under : {X : Type 0} (m : ByKey X) (key other : List ℕ) (x : Option X) → map.get (put_under m key x) other ≡ cond (is_same other key) x (map.get m other)
get-put_under m key other None = map.get-remove nat_list_cmp_total m key other
get-put_under m key other (Some x) = map.get-insert nat_list_cmp_total m key x other

pub get-put_under_same : {X : Type 0} (m : ByKey X) (key : List ℕ) (x : Option X) → map.get (put_under m key x) key ≡ x
get-put_under_same m key x = get-put_under m key key x ∙ ap (λ b. cond b x (map.get m key)) (is_same-itself key)

-- what stood under a key, put back
pub put_under-back : {X : Type 0} (m : ByKey X) (key : List ℕ) (x : Option X) → put_under (put_under m key x) key (map.get m key) ≡ m
put_under-back m key x =
    map.same_map nat_list_cmp_total (slice_cmp-IsAntisymmetric nat_cmp-IsAntisymmetric) _ _ (λ other.
    get-put_under (put_under m key x) key other (map.get m key)
    ∙ ap (cond (is_same other key) (map.get m key)) (get-put_under m key other x)
    ∙ cases other (is_same other key) refl)
  where
    cases : (other : List ℕ) (b : Bool) → is_same other key ≡ b → cond b (map.get m key) (cond b x (map.get m other)) ≡ map.get m other
    cases other true e = ap (map.get m) (sym (same_of other key e))
    cases other false e = refl

-- ---- how many entries there are
not_none : {X : Type 0} (x : X) → Some x ≡ None → ⊥
not_none x e = cc

pub some_has_length : {X : Type 0} (m : ByKey X) (key : List ℕ) (x : X) → map.get m key ≡ Some x → 0 < map.len m
some_has_length m key x e = cases (map.len m) refl
  where
    cases : (n : ℕ) → map.len m ≡ n → 0 < map.len m
    cases zero none = absurd (not_none x (sym e ∙ ap (λ n. map.get n key) (map.empty_of_len m none) ∙ map.get-empty (slice_cmp nat_cmp) key))
    cases (suc n) more = omega arith

room_for_one : (there : Bool) (n limit : ℕ) → there || nat_lt n limit ≡ true → n ≤ limit → cond there n (n + 1) ≤ limit
room_for_one true n limit room le = le
room_for_one false n limit room le = grind (arith, nat_tests)

one_less_or_same : (there : Bool) (n limit : ℕ) → n ≤ limit → cond there (n - 1) n ≤ limit
one_less_or_same true n limit le = omega arith
one_less_or_same false n limit le = le

-- whether a value, or its absence, can be put under a key
abbrev pub RoomFor : {X : Type 0} → MapAttr → ByKey X → List ℕ → Option X → Type 0
RoomFor a m key None = Unit {0}
RoomFor a m key (Some x) = has_room a m key ≡ true

pub len-put_under_within : {X : Type 0} (a : MapAttr) (m : ByKey X) (key : List ℕ) (x : Option X) → map.len m ≤ a.max_entries → RoomFor a m key x → map.len (put_under m key x) ≤ a.max_entries
len-put_under_within a m key None le room = rw (map.len-remove nat_list_cmp_total m key) (one_less_or_same (map.contains_key m key) (map.len m) a.max_entries le)
len-put_under_within a m key (Some x) le room = rw (map.len-insert nat_list_cmp_total m key x) (room_for_one (map.contains_key m key) (map.len m) a.max_entries room le)

one_less_has_room : (there again : Bool) (n limit : ℕ) → there ≡ true → 0 < n → n ≤ limit → again || nat_lt (cond there (n - 1) n) limit ≡ true
one_less_has_room true true n limit is some le = refl
one_less_has_room true false n limit is some le = grind (arith, nat_tests)
one_less_has_room false again n limit is some le = absurd (false_is_not_true is)
  where
    false_is_not_true : false ≡ true → ⊥
    false_is_not_true e = cc

true_or : (there other : Bool) → there ≡ true → there || other ≡ true
true_or true other is = refl
true_or false other is = cc

-- what stood under a key has room again
pub room_to_put_back : {X : Type 0} (a : MapAttr) (m : ByKey X) (key : List ℕ) (x : Option X) → map.len m ≤ a.max_entries → RoomFor a (put_under m key x) key (map.get m key)
room_to_put_back {X} a m key x le = cases (map.get m key) refl x
  where
    cases : (before : Option X) → map.get m key ≡ before → (x : Option X) → RoomFor a (put_under m key x) key before
    cases None was x = tt
    cases (Some old) was (Some new) = true_or (map.contains_key (put_under m key (Some new)) key) _ (ap is_some (get-put_under_same m key (Some new)))
    cases (Some old) was None =
        rw (map.len-remove nat_list_cmp_total m key)
        (one_less_has_room (map.contains_key m key) (map.contains_key (put_under m key None) key) (map.len m) a.max_entries (ap is_some was) (some_has_length m key old was) le)

-- ---- a fact of every entry
pub each-put_under : {X : Type 0} {P : List ℕ → X → Type 0} (m : ByKey X) (key : List ℕ) (x : Option X) → EachEntry m P → ((new : X) → x ≡ Some new → P key new) → EachEntry (put_under m key x) P
each-put_under {X} {P} m key x each here other y e = cases (is_same other key) refl (sym (get-put_under m key other x) ∙ e)
  where
    cases : (b : Bool) → is_same other key ≡ b → cond b x (map.get m other) ≡ Some y → P other y
    cases true same is = subst (λ k. P k y) (sym (same_of other key same)) (here y is)
    cases false apart is = each other y is
