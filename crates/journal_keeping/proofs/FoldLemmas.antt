-- The oldest moment joins the base, and nothing has retired in its state: each box and each id stays.
use Rattle.std.proofs.Common.{◌≡◌, ℕ, ◌-◌, ◌≤◌, ◌<◌, not, Bool, true, false, cond, List, [], ◌∷◌, ◌++◌, length, reverse, take, drop, map as each, Option, Some, None, is_some, refl, sym, ◌∙◌, ap, subst, arith}
use Rattle.std.specs.Prelude.{nat_lt}
use Rattle.std.specs.Cmp.{nat_cmp_total}
use Rattle.std.specs.FinMap as map
use Rattle.std.specs.FinMap.{nat_cmp-IsAntisymmetric}
use Rattle.std.proofs.lemmas.List.{append_assoc, reverse-append, length-append, length-drop}
use Rattle.std.proofs.lemmas.Bool.Decides.{nat_tests}
use Rattle.bt_objects.specs.declared.make.Make.{Make}
use Rattle.bt_objects.specs.ById.{ById}
use Rattle.bt_roots.specs.declared.target.Target.TheVariants.{Map, Prog}
use Rattle.host_state.specs.State.{State}
use Rattle.host_state.specs.World.{makes_in}
use Rattle.journal_model.specs.Replay.{Entry}
use Rattle.journal_model.specs.Plain.{Past, Pasts, now, newest_state, newest_force, cut}
use Rattle.journal_model.specs.Rebase.{without_retired, rebased, forth_by, advanced}
use Rattle.journal_model.specs.Well.{Each, Tells}
use Rattle.journal_model.proofs.Lists.{Each-append, Each-front, Each-rest}
use Rattle.journal_model.proofs.Mapped.{has-mapped}
use Rattle.journal_timeline.specs.Retired.{NoneRetired, StayIn}
use Rattle.journal_timeline.specs.Rebased.{on_new_base, shortened}
use Rattle.journal_keeping.specs.Boxes.{states_of, lasts_of, newest, IsUpTo, ListsProgs, HasComeFrom, AreKept, AllCome, KeepsBoxes}
use Rattle.journal_keeping.specs.declared.ids.LastIds.{LastIds}
use Rattle.journal_keeping.proofs.BoxesLemmas.{state_of, in_state, tells_each, AreKept-length, lives_in}
use Rattle.journal_keeping.proofs.RebaseLemmas.{get-left, get-left_prog}
use Rattle.journal_keeping.proofs.AdvanceLemmas.{states_cut, states_forth}

-- ---- states
same_left : (w : State) → NoneRetired w → (s : State) → without_retired w s ≡ s
same_left w none s = λ i. record s { maps = same_maps i; progs = same_progs i }
  where
    same_maps : (without_retired w s).maps ≡ s.maps
    same_maps = map.same_map nat_cmp_total nat_cmp-IsAntisymmetric _ _ (λ q. get-left w s q ∙ ap (λ b. cond (not b) (map.get s.maps q) None) (none (Map q)))

    same_progs : (without_retired w s).progs ≡ s.progs
    same_progs = map.same_map nat_cmp_total nat_cmp-IsAntisymmetric _ _ (λ q. get-left_prog w s q ∙ ap (λ b. cond (not b) (map.get s.progs q) None) (none (Prog q)))

rebased_is : (p : Pasts) → NoneRetired (now p) → rebased p ≡ on_new_base p
rebased_is p none = λ i. record {
  base = same_left (now p) none (now p) i;
  moments = [];
  undone = each (λ (m : Past). record m { force = drop (length (newest_force p.moments)) m.force; state = same_left (now p) none m.state i }) p.undone;
}

pub folded_pasts : (count : ℕ) (p : Pasts) → NoneRetired (now (cut count p)) → forth_by (length p.moments - count) (on_new_base (cut count p)) ≡ advanced count p
folded_pasts count p none = ap (forth_by (length p.moments - count)) (sym (rebased_is (cut count p) none))

-- ---- without the oldest
short_states : (front : List Entry) (us : List Past) → each state_of (each (shortened front) us) ≡ each state_of us
short_states front [] = refl
short_states front (u ∷ us) = ap (λ ss. u.state ∷ ss) (short_states front us)

newest_left : (ks : List LastIds) (l b : LastIds) → newest (ks ++ l ∷ b ∷ []) ≡ newest (ks ++ l ∷ [])
newest_left [] l b = refl
newest_left (k ∷ ks) l b = refl

front_of : (P : LastIds → Type 0) (ks : List LastIds) (l b : LastIds) → Each P (ks ++ l ∷ b ∷ []) → Each P (ks ++ l ∷ [])
front_of P [] l b h = (h.0, tt)
front_of P (k ∷ ks) l b h = (h.0, front_of P ks l b h.1)

with_last : (id : ℕ) (ks : List LastIds) (l b : LastIds) → IsUpTo l b → Each (λ (x : LastIds). x.map_id < id) (ks ++ l ∷ []) → Each (λ (x : LastIds). x.map_id < id) (ks ++ l ∷ b ∷ [])
with_last id [] l b up h = (h.0, (omega (arith, up.0, h.0), tt))
with_last id (k ∷ ks) l b up h = (h.0, with_last id ks l b up h.1)

module _ (makes : ById Make) (w base : State) (l b : LastIds) (stay : (id : ℕ) (make : Make) → map.get (makes_in base) id ≡ Some make → map.get (makes_in w) id ≡ Some make) where
  last_up : (xs : List State) (ks : List LastIds) → length xs ≡ length ks → AreKept makes (xs ++ w ∷ base ∷ []) (ks ++ l ∷ b ∷ []) → IsUpTo l b
  last_up [] [] e h = h.0.rises.0
  last_up [] (k ∷ ks) e h = absurd (omega (arith, e))
  last_up (x ∷ xs) [] e h = absurd (omega (arith, e))
  last_up (x ∷ xs) (k ∷ ks) e h = last_up xs ks (omega (arith, e)) h.1

  kept_left : (xs : List State) (ks : List LastIds) → length xs ≡ length ks → IsUpTo l b → AreKept makes (xs ++ w ∷ base ∷ []) (ks ++ l ∷ b ∷ []) → AreKept makes (xs ++ w ∷ []) (ks ++ l ∷ [])
  kept_left [] [] e up h = (record { tells = h.0.tells; within = h.0.within; rises = tt; gave = gave }, tt)
    where
      gave : (id : ℕ) (make : Make) → map.get makes id ≡ Some make → id ≤ l.map_id → Each (λ (x : LastIds). x.map_id < id) [] → map.get (makes_in w) id ≡ Some make
      gave id make is low new = by (nat_lt b.map_id id) refl
        where
          by : (above : Bool) → nat_lt b.map_id id ≡ above → map.get (makes_in w) id ≡ Some make
          by true a = h.0.gave id make is low (grind (arith, nat_tests, a), tt)
          by false a = stay id make (h.1.0.gave id make is (grind (arith, nat_tests, a)) tt)
  kept_left [] (k ∷ ks) e up h = absurd (omega (arith, e))
  kept_left (x ∷ xs) [] e up h = absurd (omega (arith, e))
  kept_left (x ∷ xs) (k ∷ ks) e up h = (
    record {
      tells = h.0.tells;
      within = h.0.within;
      rises = front_of (IsUpTo k) ks l b h.0.rises;
      gave = λ id make is low new. h.0.gave id make is low (with_last id ks l b up new);
    },
    kept_left xs ks (omega (arith, e)) up h.1,
  )

  come_left : (xs : List State) (ks : List LastIds) → length xs ≡ length ks → AllCome (xs ++ w ∷ base ∷ []) (ks ++ l ∷ b ∷ []) → AllCome (xs ++ w ∷ []) (ks ++ l ∷ [])
  come_left [] [] e h = (tt, tt)
  come_left [] (k ∷ ks) e h = absurd (omega (arith, e))
  come_left (x ∷ xs) [] e h = absurd (omega (arith, e))
  come_left (x ∷ xs) (k ∷ ks) e h = (from xs ks h.0, come_left xs ks (omega (arith, e)) h.1)
    where
      from : (xs : List State) (ks : List LastIds) → HasComeFrom x (xs ++ w ∷ base ∷ []) (ks ++ l ∷ b ∷ []) → HasComeFrom x (xs ++ w ∷ []) (ks ++ l ∷ [])
      from [] [] h = h
      from [] (k ∷ ks) h = h
      from (y ∷ ys) [] h = h
      from (y ∷ ys) (k ∷ ks) h = h

  keeps_left : (maps progs : List ℕ) (xs : List State) (ks : List LastIds) → length xs ≡ length ks → NoneRetired w → KeepsBoxes makes (xs ++ w ∷ base ∷ []) (ks ++ l ∷ b ∷ []) maps progs → KeepsBoxes makes (xs ++ w ∷ []) (ks ++ l ∷ []) maps progs
  keeps_left maps progs xs ks e none h = record {
    kept = kept_left xs ks e (last_up xs ks e h.kept) h.kept;
    come = come_left xs ks e h.come;
    ids = h.ids;
    maps_below = λ id there. let low : id ≤ (newest (ks ++ l ∷ b ∷ [])).map_id = h.maps_below id there in omega (arith, low, ap (λ (x : LastIds). x.map_id) (newest_left ks l b));
    progs_below = λ id there. let low : id ≤ (newest (ks ++ l ∷ b ∷ [])).prog_id = h.progs_below id there in omega (arith, low, ap (λ (x : LastIds). x.prog_id) (newest_left ks l b));
    maps_ascend = h.maps_ascend;
    progs_ascend = h.progs_ascend;
    progs_listed = Each-append (ListsProgs progs) xs (w ∷ []) (Each-front (ListsProgs progs) xs (w ∷ base ∷ []) h.progs_listed) ((Each-rest (ListsProgs progs) xs (w ∷ base ∷ []) h.progs_listed).0, tt);
    base_lives = lives_in xs w none;
  }

-- ---- a line
single : (xs : List Past) → length xs ≡ 1 → (x : Past) × (xs ≡ x ∷ [])
single [] e = cc
single (x ∷ []) e = (x, refl)
single (x ∷ y ∷ xs) e = absurd (omega (arith, e))

module _ (makes : ById Make) (maps progs : List ℕ) (p : Pasts) (base : LastIds) (some : 1 ≤ length p.moments) (none : NoneRetired (now (cut 1 p))) (stay : StayIn p.base (now (cut 1 p))) where
  abbrev before : Pasts
  before = cut 1 p

  abbrev later : List State
  later = reverse (each state_of before.undone)

  one : (x : Past) × (before.moments ≡ x ∷ [])
  one = single before.moments (length-drop (length p.moments - 1) p.moments ∙ omega (arith, some))

  states_were : states_of p ≡ later ++ now before ∷ p.base ∷ []
  states_were = sym (states_cut 1 p) ∙ ap (λ ms. later ++ (each state_of ms ++ p.base ∷ [])) one.1 ∙ ap (λ s. later ++ s ∷ p.base ∷ []) (sym (ap (newest_state p.base) one.1))

  states_are : states_of (advanced 1 p) ≡ later ++ now before ∷ []
  states_are =
      ap states_of (sym (folded_pasts 1 p none)) ∙ states_forth (length p.moments - 1) (on_new_base before)
      ∙ ap (λ ss. reverse ss ++ now before ∷ []) (short_states (newest_force before.moments) before.undone)

  same_box : Tells makes p.base → Tells makes (now before) → (id : ℕ) (make : Make) → map.get (makes_in p.base) id ≡ Some make → map.get (makes_in (now before)) id ≡ Some make
  same_box told there id make e = by (map.get (makes_in (now before)) id) refl (has-mapped _ (now before).maps id ∙ stay.maps id (in_state p.base id make e))
    where
      by : (o : Option Make) → map.get (makes_in (now before)) id ≡ o → is_some o ≡ true → map.get (makes_in (now before)) id ≡ Some make
      by None is has = cc
      by (Some other) is has = is ∙ sym (there id other is) ∙ told id make e

  pub keeps_folded : (lasts : List LastIds) → 1 ≤ length lasts → KeepsBoxes makes (states_of p) (lasts_of base lasts) maps progs
      → KeepsBoxes makes (states_of (advanced 1 p)) (lasts_of (newest (lasts_of base (take 1 lasts))) (drop 1 lasts)) maps progs
  keeps_folded [] few k = absurd (omega (arith, few))
  keeps_folded (l ∷ rest) few k =
      let was : lasts_of base (l ∷ rest) ≡ reverse rest ++ l ∷ base ∷ [] = ap (λ ls. ls ++ base ∷ []) (reverse-append (l ∷ []) rest) ∙ append_assoc (reverse rest) (l ∷ []) (base ∷ []) in
      let old : KeepsBoxes makes (later ++ now before ∷ p.base ∷ []) (reverse rest ++ l ∷ base ∷ []) maps progs = subst (λ (x : List State × List LastIds). KeepsBoxes makes x.0 x.1 maps progs) (λ i. (states_were i, was i)) k in
      let told : Each (Tells makes) (later ++ now before ∷ p.base ∷ []) = tells_each makes (later ++ now before ∷ p.base ∷ []) (reverse rest ++ l ∷ base ∷ []) old.kept in
      let ends : Each (Tells makes) (now before ∷ p.base ∷ []) = Each-rest (Tells makes) later (now before ∷ p.base ∷ []) told in
      let long : length (later ++ now before ∷ p.base ∷ []) ≡ length (reverse rest ++ l ∷ base ∷ []) = AreKept-length makes (later ++ now before ∷ p.base ∷ []) (reverse rest ++ l ∷ base ∷ []) old.kept in
      let same : length later ≡ length (reverse rest) = omega (arith, long, length-append later (now before ∷ p.base ∷ []), length-append (reverse rest) (l ∷ base ∷ [])) in
      subst (λ ss. KeepsBoxes makes ss (reverse rest ++ l ∷ []) maps progs) (sym states_are)
      (keeps_left makes (now before) p.base l base (same_box ends.1.0 ends.0) maps progs later (reverse rest) same none old)
