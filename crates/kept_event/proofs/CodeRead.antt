-- The code of a row is the one that was written: its slots are counted alike, and its maps are those that it names.
use Rattle.std.proofs.Common.{◌≡◌, ℕ, zero, suc, ◌+◌, ◌-◌, ◌<◌, ◌≤◌, List, [], ◌∷◌, length, get_or, fold, ◌⊎◌, inl, inr, refl, subst, subst₂, sym, ap, ap₂, ◌∙◌, arith, length-append}
use Rattle.std.specs.Prelude.{Contains}
use Rattle.std.proofs.lemmas.Bool.{cases_eq}
use Rattle.bt_insn.specs.declared.insn.Insn.{Insn}
use Rattle.bt_insn.specs.declared.insn.Insn.TheVariants.{LoadImmediate, LoadMap}
use Rattle.bt_insn.specs.Table.{slots_of}
use Rattle.bt_insn.specs.Spelling.{slots_in, spelling}
use Rattle.bt_insn.specs.Grammar.{ReadsAs}
use Rattle.bt_verify.specs.Maps.{AreAscending, AreNamed}
use Rattle.bt_verify.specs.Slots.{slots, slots_with}
use Rattle.bt_verify.specs.Verified.{Checked, IsVerified}
use Rattle.bt_verify.specs.declared.slot.Slot.{Slot}
use Rattle.kept_event.specs.Bounded.{IsChecked}
use Rattle.kept_event.specs.Maps.{FitMaps}
use Rattle.kept_event.proofs.MapsRead.{Map}

-- ---- slots
width : (v : Insn) → slots_of v ≡ length (slots_with v)
width (LoadImmediate dst value) = refl
width (LoadMap dst id) = refl
width _ = refl

counted_from : (n : ℕ) (insns : List Insn) → fold (λ a v. a + slots_of v) n insns ≡ n + length (slots insns)
counted_from n [] = omega arith
counted_from n (v ∷ vs) =
    let rest = counted_from (n + slots_of v) vs in
    omega (arith, rest, width v, length-append (slots_with v) (slots vs))

pub counted : (insns : List Insn) → slots_in insns ≡ length (slots insns)
counted insns = let all = counted_from 0 insns in omega (arith, all)

-- ---- ids that ascend
pub AscendBelow : ℕ → List Map → Type 0
AscendBelow n maps = (i j : ℕ) (d : Map) → i < j → j < n → (get_or maps i d).0 < (get_or maps j d).0

-- one position more
pub ascend_more : (maps : List Map) (place : ℕ) → 1 ≤ place → AscendBelow place maps → ((d : Map) → (get_or maps (place - 1) d).0 < (get_or maps place d).0) → AscendBelow (place + 1) maps
unfolding AscendBelow
ascend_more maps place some below last = λ i j d lt within. elim (cases_eq j place) [
  | inl here ↦ elim (cases_eq i (place - 1)) [
    | inl near ↦ rw (here, near) (last d)
    | inr far ↦ let first = below i (place - 1) d (omega (arith, lt, here, far)) (omega (arith, some)) in rw here (omega (arith, first, last d))
  ]
  | inr before ↦ below i j d lt (omega (arith, within, before))
]

pub ascend_first : (maps : List Map) → AscendBelow 1 maps
unfolding AscendBelow
ascend_first maps = λ i j d lt within. absurd (omega (arith, lt, within))

pub ascend_all : (maps : List Map) (place : ℕ) → length maps ≤ place → AscendBelow place maps → AreAscending maps
unfolding AscendBelow
ascend_all maps place le below = λ i j d lt within. below i j d lt (omega (arith, le, within))

pub falls : (maps : List Map) (place : ℕ) (d : Map) → 1 ≤ place → place < length maps → (get_or maps place d).0 ≤ (get_or maps (place - 1) d).0 → ¬ AreAscending maps
falls maps place d some within le = λ up. let lt = up (place - 1) place d (omega (arith, some)) within in omega (arith, lt, le)

-- ---- lists of ascending ids with the same members are the same
tail_ascends : (x : Map) (xs : List Map) → AreAscending (x ∷ xs) → AreAscending xs
tail_ascends x xs up = λ i j d lt within. up (suc i) (suc j) d (omega (arith, lt)) (omega (arith, within))

-- the first id is below that of each later member
first_below : (x m : Map) (xs : List Map) → AreAscending (x ∷ xs) → Contains xs m → x.0 < m.0
first_below x m xs up c = let later = up 0 (suc c.0) m (omega arith) (omega (arith, c.1)) in subst (λ n. x.0 < n) (ap (λ (p : Map). p.0) c.2) later

member : (x m : Map) (xs : List Map) → Contains (x ∷ xs) m → (x ≡ m) ⊎ Contains xs m
member x m xs (zero, within, is) = inl is
member x m xs (suc k, within, is) = inr (k, omega (arith, within), is)

abbrev Holds : List Map → List Map → Type 0
Holds xs ys = (m : Map) → Contains xs m → Contains ys m

heads : (x y : Map) (xs ys : List Map) → AreAscending (x ∷ xs) → AreAscending (y ∷ ys) → Holds (x ∷ xs) (y ∷ ys) → Holds (y ∷ ys) (x ∷ xs) → x ≡ y
heads x y xs ys up vp to from = elim (member y x ys (to x (0, omega arith, refl))) [
  | inl same ↦ sym same
  | inr later ↦ elim (member x y xs (from y (0, omega arith, refl))) [
    | inl same ↦ same
    | inr after ↦ absurd (omega (arith, first_below y x ys vp later, first_below x y xs up after))
  ]
]

tails : (x : Map) (xs ys : List Map) → AreAscending (x ∷ xs) → Holds (x ∷ xs) (x ∷ ys) → Holds xs ys
tails x xs ys up to = λ m c. elim (member x m ys (to m (suc c.0, omega (arith, c.1), c.2))) [
  | inl same ↦ absurd (let below = first_below x m xs up c in omega (arith, below, ap (λ (p : Map). p.0) same))
  | inr later ↦ later
]

pub same_members : (xs ys : List Map) → AreAscending xs → AreAscending ys → Holds xs ys → Holds ys xs → xs ≡ ys
same_members [] [] up vp to from = refl
same_members [] (y ∷ ys) up vp to from = absurd (let c = from y (0, omega arith, refl) in omega (arith, c.1))
same_members (x ∷ xs) [] up vp to from = absurd (let c = to x (0, omega arith, refl) in omega (arith, c.1))
same_members (x ∷ xs) (y ∷ ys) up vp to from =
    let head : x ≡ y = heads x y xs ys up vp to from in
    let to' : Holds (x ∷ xs) (x ∷ ys) = subst (λ z. Holds (x ∷ xs) (z ∷ ys)) (sym head) to in
    let from' : Holds (x ∷ ys) (x ∷ xs) = subst (λ z. Holds (z ∷ ys) (x ∷ xs)) (sym head) from in
    let vp' : AreAscending (x ∷ ys) = subst (λ z. AreAscending (z ∷ ys)) (sym head) vp in
    ap₂ ◌∷◌ head (same_members xs ys (tail_ascends x xs up) (tail_ascends x ys vp') (tails x xs ys up to') (tails x ys xs vp' from'))

-- ---- code
pub same_code : (a b : Checked) → a.insns ≡ b.insns → a.maps ≡ b.maps → a ≡ b
same_code a b i m = ap₂ (λ insns maps. record { insns = insns; maps = maps }) i m

-- what a verifier that was given just the maps of verified code keeps of them
pub same_maps : (code : Checked) (maps : List Map) → IsVerified code.insns code.maps (slots code.insns) → AreNamed (slots code.insns) code.maps maps → maps ≡ code.maps
same_maps code maps is named =
    same_members maps code.maps named.ascending is.ascending (λ m c. ((named.exactly m).0 c).0) (λ m c. (named.exactly m).1 (c, is.named m c))

-- code that is verified is written so that it reads as it is
pub is_checked : (code v : Checked) (found : List Slot) (bytes : List ℕ) → v ≡ code → found ≡ slots v.insns → IsVerified v.insns v.maps found → bytes ≡ spelling code.insns
    → (slots_in code.insns ≤ 4096 → ReadsAs bytes code.insns) → FitMaps code.maps → IsChecked code
is_checked code v found bytes same laid is spelled again fits =
    let own : IsVerified v.insns v.maps (slots v.insns) = subst (IsVerified v.insns v.maps) laid is in
    let whole : IsVerified code.insns code.maps (slots code.insns) = subst (λ (x : Checked). IsVerified x.insns x.maps (slots x.insns)) same own in
    let few : slots_in code.insns ≤ 4096 = omega (arith, counted code.insns, whole.sound.few) in
    record { verified = whole; reads = subst (λ bs. ReadsAs bs code.insns) spelled (again few); fits = fits }

-- what is verified of the instructions and the maps of code is that code
pub verified_same : (code v : Checked) (insns : List Insn) (maps : List Map) → IsChecked code → insns ≡ code.insns → maps ≡ code.maps → v.insns ≡ insns → AreNamed (slots insns) maps v.maps → v ≡ code
verified_same code v insns maps is same_insns same_list own named =
    let here : AreNamed (slots code.insns) code.maps v.maps = subst₂ (λ i m. AreNamed (slots i) m v.maps) same_insns same_list named in
    same_code v code (own ∙ same_insns) (same_maps code v.maps is.verified here)
