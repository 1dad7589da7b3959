-- The boxes and ids that are left once a state is the base.
use Rattle.std.proofs.Common.{◌≡◌, ◌⊎◌, inl, inr, ℕ, ◌≤◌, ◌<◌, ◌==◌, ◌||◌, ◌&&◌, not, Bool, true, false, IsTrue, cond, List, [], ◌∷◌, ◌++◌, length, filter, reverse, take, drop, map as each, Option, Some, None, is_some, refl, sym, ◌∙◌, ap, subst, arith}
use Rattle.std.specs.Prelude.{nat_lt}
use Rattle.std.specs.Option.{option_map}
use Rattle.std.specs.FinMap as map
use Rattle.std.specs.FinMap.{nat_cmp-IsAntisymmetric}
use Rattle.std.proofs.lemmas.List.{reverse-append, reverse-reverse, map-append, length-append, length-map, length-reverse, length-drop}
use Rattle.std.proofs.lemmas.Bool.Decides.{nat_tests}
use Rattle.std.proofs.lemmas.Map.Views.{any-filter_same}
use Rattle.bt_objects.specs.Ids.{is_among}
use Rattle.bt_objects.specs.declared.make.Make.{Make}
use Rattle.bt_roots.specs.declared.target.Target.TheVariants.{Map, Prog}
use Rattle.bt_objects.specs.ById.{ById}
use Rattle.host_state.specs.State.{HostMap, HostProg, State}
use Rattle.host_state.specs.Settled.{is_live_map, is_live_prog, is_live_in}
use Rattle.host_state.specs.World.{makes_in, kept_state}
use Rattle.host_state.proofs.ByIdLemmas.{same_map, get-mapped}
use Rattle.journal_model.specs.Replay.{Entry}
use Rattle.journal_model.specs.Plain.{Past, Pasts, now, newest_state, newest_force}
use Rattle.journal_model.specs.Rebase.{is_retired_map, is_retired_prog, without_retired, based_on, rebased}
use Rattle.journal_model.specs.Well.{Each, Tells, IdsUpTo}
use Rattle.journal_model.proofs.Lists.{Each-append, Each-map, Each-rest, Each-front, Each-reverse}
use Rattle.journal_model.proofs.Mapped.{has-mapped}
use Rattle.journal_timeline.specs.Retired.{NoneRetired}
use Rattle.journal_timeline.specs.Rebased.{shortened, on_new_base, ListsLeft, ListsAllLeft, kept_past, kept_pasts}
use Rattle.journal_keeping.specs.Boxes.{states_of, lasts_of, newest, IsUpTo, ListsProgs, HasCome, HasComeFrom, AllCome, IsKept, AreKept, KeepsBoxes, keeps_map, keeps_prog}
use Rattle.journal_keeping.specs.declared.ids.LastIds.{LastIds}
use Rattle.journal_timeline.proofs.AscendLemmas.{Rises-some}
use Rattle.journal_keeping.proofs.IdsLemmas.{lasts-parts, newest_up}
use Rattle.journal_keeping.proofs.BoxesLemmas.{state_of, in_state, get-kept, AreKept-length, AreKept-rest, tells_each, lives_in}

-- ---- objects that have not retired
not_not : (b : Bool) → not (not b) ≡ b
not_not true = refl
not_not false = refl

-- an object that was in the state before, or given since, is kept just if it has not retired there
pub map_kept : (l : LastIds) (w : State) (id : ℕ) → ((id : ℕ) → map.contains_key w.maps id ≡ true → id ≤ l.map_id) → (map.contains_key w.maps id ≡ true) ⊎ (l.map_id < id) → keeps_map l w id ≡ not (is_retired_map (map.get w.maps id))
map_kept l w id within from = by (map.get w.maps id) refl (nat_lt l.map_id id) refl
  where
    by : (o : Option HostMap) → map.get w.maps id ≡ o → (b : Bool) → nat_lt l.map_id id ≡ b → (b || is_live_map o) ≡ not (is_retired_map o)
    by None e true above = refl
    by None e false above = elim from [ inl there ↦ cc (sym there ∙ ap is_some e) | inr since ↦ absurd (grind (arith, nat_tests, above, since)) ]
    by (Some m) e true above = let low : id ≤ l.map_id = within id (ap is_some e) in absurd (grind (arith, nat_tests, above, low))
    by (Some m) e false above = sym (not_not m.live)

pub prog_kept : (l : LastIds) (w : State) (id : ℕ) → ((id : ℕ) → map.contains_key w.progs id ≡ true → id ≤ l.prog_id) → (map.contains_key w.progs id ≡ true) ⊎ (l.prog_id < id) → keeps_prog l w id ≡ not (is_retired_prog (map.get w.progs id))
prog_kept l w id within from = by (map.get w.progs id) refl (nat_lt l.prog_id id) refl
  where
    by : (o : Option HostProg) → map.get w.progs id ≡ o → (b : Bool) → nat_lt l.prog_id id ≡ b → (b || is_live_prog o) ≡ not (is_retired_prog o)
    by None e true above = refl
    by None e false above = elim from [ inl there ↦ cc (sym there ∙ ap is_some e) | inr since ↦ absurd (grind (arith, nat_tests, above, since)) ]
    by (Some p) e true above = let low : id ≤ l.prog_id = within id (ap is_some e) in absurd (grind (arith, nat_tests, above, low))
    by (Some p) e false above = sym (not_not p.live)

-- what is left of a state
pub get-left : (w s : State) (q : ℕ) → map.get (without_retired w s).maps q ≡ cond (not (is_retired_map (map.get w.maps q))) (map.get s.maps q) None
get-left w s q = map.get-retain_keys s.maps (λ id. not (is_retired_map (map.get w.maps id))) q (λ x same. ap (λ id. not (is_retired_map (map.get w.maps id))) (sym (nat_cmp-IsAntisymmetric q x same)))

pub get-left_prog : (w s : State) (q : ℕ) → map.get (without_retired w s).progs q ≡ cond (not (is_retired_prog (map.get w.progs q))) (map.get s.progs q) None
get-left_prog w s q = map.get-retain_keys s.progs (λ id. not (is_retired_prog (map.get w.progs id))) q (λ x same. ap (λ id. not (is_retired_prog (map.get w.progs id))) (sym (nat_cmp-IsAntisymmetric q x same)))

inside : {X Y : Type 0} (f : X → Y) (b : Bool) (o : Option X) → option_map f (cond b o None) ≡ cond b (option_map f o) None
inside f true o = refl
inside f false o = refl

abbrev make_in : ℕ → HostMap → Make
make_in id m = record { attr = m.attr; charge = m.charge }

pub makes-left : (w s : State) (q : ℕ) → map.get (makes_in (without_retired w s)) q ≡ cond (not (is_retired_map (map.get w.maps q))) (map.get (makes_in s) q) None
makes-left w s q =
    get-mapped make_in (without_retired w s).maps q ∙ ap (option_map (make_in q)) (get-left w s q) ∙ inside (make_in q) (not (is_retired_map (map.get w.maps q))) (map.get s.maps q)
    ∙ ap (λ o. cond (not (is_retired_map (map.get w.maps q))) o None) (sym (get-mapped make_in s.maps q))

-- of the state itself nothing is left that has retired
none_left : (w : State) → NoneRetired (without_retired w w)
none_left w (Map id) = ap is_retired_map (get-left w w id) ∙ by (map.get w.maps id)
  where
    by : (o : Option HostMap) → is_retired_map (cond (not (is_retired_map o)) o None) ≡ false
    by None = refl
    by (Some m) = live m.live
      where
        live : (b : Bool) → is_retired_map (cond (not (not b)) (Some (record m { live = b })) None) ≡ false
        live true = refl
        live false = refl
none_left w (Prog id) = ap is_retired_prog (get-left_prog w w id) ∙ by (map.get w.progs id)
  where
    by : (o : Option HostProg) → is_retired_prog (cond (not (is_retired_prog o)) o None) ≡ false
    by None = refl
    by (Some p) = live p.live
      where
        live : (b : Bool) → is_retired_prog (cond (not (not b)) (Some (record p { live = b })) None) ≡ false
        live true = refl
        live false = refl

-- what is there of it, was there and has not retired
pub was_left : {X : Type 0} (b : Bool) (o : Option X) → is_some (cond b o None) ≡ true → (b ≡ true) × (is_some o ≡ true)
was_left true o e = (refl, e)
was_left false o e = cc

pub some_left : {X : Type 0} (b : Bool) (o : Option X) (x : X) → cond b o None ≡ Some x → (b ≡ true) × (o ≡ Some x)
some_left true o x e = (refl, e)
some_left false o x e = cc

-- just the objects of a state that have not retired in w are listed
pub record JustListed (maps progs : List ℕ) (w s : State) : Type 0 where
  pub maps_listed : (id : ℕ) → map.contains_key s.maps id ≡ true → is_among maps id ≡ not (is_retired_map (map.get w.maps id))
  pub progs_listed : (id : ℕ) → map.contains_key s.progs id ≡ true → is_among progs id ≡ not (is_retired_prog (map.get w.progs id))

-- they are what is left of it
pub left_is : (maps progs : List ℕ) (w s : State) → JustListed maps progs w s → kept_state maps progs s ≡ without_retired w s
left_is maps progs w s h = λ i. record s { maps = same_maps i; progs = same_progs i }
  where
    at : {X : Type 0} (p r : Bool) (o : Option X) → (is_some o ≡ true → p ≡ r) → cond p o None ≡ cond r o None
    at p r None e = none p ∙ sym (none r)
      where
        none : {X : Type 0} (p : Bool) → let n : Option X = None in cond p n n ≡ n
        none true = refl
        none false = refl
    at p r (Some x) e = ap (λ c. cond c (Some x) None) (e refl)

    same_maps : (kept_state maps progs s).maps ≡ (without_retired w s).maps
    same_maps = same_map _ _ (λ q.
        map.get-retain_keys s.maps (is_among maps) q (λ x same. ap (is_among maps) (sym (nat_cmp-IsAntisymmetric q x same)))
        ∙ at (is_among maps q) (not (is_retired_map (map.get w.maps q))) (map.get s.maps q) (h.maps_listed q) ∙ sym (get-left w s q))

    same_progs : (kept_state maps progs s).progs ≡ (without_retired w s).progs
    same_progs = same_map _ _ (λ q.
        map.get-retain_keys s.progs (is_among progs) q (λ x same. ap (is_among progs) (sym (nat_cmp-IsAntisymmetric q x same)))
        ∙ at (is_among progs q) (not (is_retired_prog (map.get w.progs q))) (map.get s.progs q) (h.progs_listed q) ∙ sym (get-left_prog w s q))

-- ---- ids that are kept
among-some : (p : ℕ → Bool) (ids : List ℕ) (q : ℕ) → is_among (filter p ids) q ≡ (p q && is_among ids q)
among-some p ids q = any-filter_same (λ other. other == q) p (p q) (λ k same. ap p (grind (arith, nat_tests, same))) ids

and_parts : (a b : Bool) → (a && b) ≡ true → (a ≡ true) × (b ≡ true)
and_parts true b e = (refl, e)
and_parts false b e = cc

and_true : (a b : Bool) → b ≡ true → (a && b) ≡ a
and_true true b e = e
and_true false b e = refl

pub among_kept : (p : ℕ → Bool) (ids : List ℕ) (q : ℕ) → is_among ids q ≡ true → is_among (filter p ids) q ≡ p q
among_kept p ids q e = among-some p ids q ∙ and_true (p q) (is_among ids q) e

pub among_was : (p : ℕ → Bool) (ids : List ℕ) (q : ℕ) → is_among (filter p ids) q ≡ true → (p q ≡ true) × (is_among ids q ≡ true)
among_was p ids q e = and_parts (p q) (is_among ids q) (sym (among-some p ids q) ∙ e)

-- ---- later states
-- what a later state has was in the state before, or its id was given since
pub come_since : (w : State) (ts : List State) (l : LastIds) (ls : List LastIds) (makes : ById Make) (us : List State) (ks : List LastIds) → AreKept makes (us ++ w ∷ ts) (ks ++ l ∷ ls) → AllCome (us ++ w ∷ ts) (ks ++ l ∷ ls) → length us ≡ length ks → Each (λ s. HasCome s w l) us
come_since w ts l ls makes [] ks kept come len = tt
come_since w ts l ls makes (u ∷ us) [] kept come len = absurd (omega (arith, len))
come_since w ts l ls makes (u ∷ us) (k ∷ ks) kept come len =
    let rest : Each (λ s. HasCome s w l) us = come_since w ts l ls makes us ks kept.1 come.1 (omega (arith, len)) in
    (first us ks kept.1 come.0 (omega (arith, len)) rest, rest)
  where
    above : (ks : List LastIds) (us : List State) → AreKept makes (us ++ w ∷ ts) (ks ++ l ∷ ls) → length us ≡ length ks → (k : LastIds) → Each (IsUpTo k) (ks ++ l ∷ ls) → IsUpTo k l
    above ks us kept len k rises = (Each-rest (IsUpTo k) ks (l ∷ ls) rises).0

    first : (us : List State) (ks : List LastIds) → AreKept makes (us ++ w ∷ ts) (ks ++ l ∷ ls) → HasComeFrom u (us ++ w ∷ ts) (ks ++ l ∷ ls) → length us ≡ length ks → Each (λ s. HasCome s w l) us → HasCome u w l
    first [] [] kept come len rest = come
    first [] (k ∷ ks) kept come len rest = absurd (omega (arith, len))
    first (t ∷ ts) [] kept come len rest = absurd (omega (arith, len))
    first (t ∷ us) (k ∷ ks) kept come len rest =
        let up : IsUpTo k l = above ks us kept.1 (omega (arith, len)) k kept.0.rises in record {
          maps = λ id there. (elim (come.maps id there) [ inl was ↦ rest.0.maps id was | inr since ↦ inr (omega (arith, since, up.0)) ]);
          progs = λ id there. (elim (come.progs id there) [ inl was ↦ rest.0.progs id was | inr since ↦ inr (omega (arith, since, up.1)) ]);
        }

-- ---- the boxes that are left
-- a state w with the last ids l when it was made, and the ids that a book keeps
module _ (makes : ById Make) (maps progs : List ℕ) (w : State) (l : LastIds) where
  abbrev pub maps_left : List ℕ
  maps_left = filter (keeps_map l w) maps

  abbrev pub progs_left : List ℕ
  progs_left = filter (keeps_prog l w) progs

  abbrev pub makes_left : ById Make
  makes_left = map.retain_keys makes (is_among maps_left)

  abbrev Listed : Type 0
  Listed = (id : ℕ) → is_among maps id ≡ map.contains_key makes id

  -- a map that has come since, and has not retired, is listed with its box
  left_map : Listed → IdsUpTo l.map_id l.prog_id w → (s : State) → HasCome s w l → Tells makes s → (id : ℕ) (make : Make) → map.get (makes_in s) id ≡ Some make → is_among maps_left id ≡ not (is_retired_map (map.get w.maps id))
  left_map listed within s come tells id make e =
      among_kept (keeps_map l w) maps id (listed id ∙ ap is_some (tells id make e)) ∙ map_kept l w id within.maps (come.maps id (in_state s id make e))

  left_prog : IdsUpTo l.map_id l.prog_id w → (s : State) → HasCome s w l → ListsProgs progs s → (id : ℕ) → map.contains_key s.progs id ≡ true → is_among progs_left id ≡ not (is_retired_prog (map.get w.progs id))
  left_prog within s come listed id there = among_kept (keeps_prog l w) progs id (listed id there) ∙ prog_kept l w id within.progs (come.progs id there)

  get-makes_left : (id : ℕ) → map.get makes_left id ≡ cond (is_among maps_left id) (map.get makes id) None
  get-makes_left id = get-kept makes maps_left id

  -- what is left of a later state tells its boxes
  left_tells : Listed → IdsUpTo l.map_id l.prog_id w → (s : State) → HasCome s w l → Tells makes s → Tells makes_left (without_retired w s)
  left_tells listed within s come tells id make e =
      let was : (not (is_retired_map (map.get w.maps id)) ≡ true) × (map.get (makes_in s) id ≡ Some make) = some_left _ _ make (sym (makes-left w s id) ∙ e) in
      get-makes_left id ∙ ap (λ b. cond b (map.get makes id) None) (left_map listed within s come tells id make was.1 ∙ was.0) ∙ tells id make was.1

  -- its ids are up to the same last
  left_within : (k : LastIds) (s : State) → IdsUpTo k.map_id k.prog_id s → IdsUpTo k.map_id k.prog_id (without_retired w s)
  left_within k s h = record {
    maps = λ id there. h.maps id (was_left _ (map.get s.maps id) (sym (ap is_some (get-left w s id)) ∙ there)).1;
    progs = λ id there. h.progs id (was_left _ (map.get s.progs id) (sym (ap is_some (get-left_prog w s id)) ∙ there)).1;
  }

  -- a box that is left was there, and is kept
  was_box : (id : ℕ) (make : Make) → map.get makes_left id ≡ Some make → (keeps_map l w id ≡ true) × (map.get makes id ≡ Some make)
  was_box id make e =
      let was : (is_among maps_left id ≡ true) × (map.get makes id ≡ Some make) = some_left _ _ make (sym (get-makes_left id) ∙ e) in
      ((among_was (keeps_map l w) maps id was.0).0, was.1)

  not_retired_above : IdsUpTo l.map_id l.prog_id w → (id : ℕ) → l.map_id < id → not (is_retired_map (map.get w.maps id)) ≡ true
  not_retired_above within id above = by (map.get w.maps id) refl
    where
      by : (o : Option HostMap) → map.get w.maps id ≡ o → not (is_retired_map o) ≡ true
      by None e = refl
      by (Some m) e = let low : id ≤ l.map_id = within.maps id (ap is_some e) in absurd (omega (arith, low, above))

  -- a live map stays, and its box is as it was
  live_left : (id : ℕ) → is_live_in w (Map id) ≡ true → (not (is_retired_map (map.get w.maps id)) ≡ true) × (map.contains_key w.maps id ≡ true)
  live_left id live = by (map.get w.maps id) live
    where
      by : (o : Option HostMap) → is_live_map o ≡ true → (not (is_retired_map o) ≡ true) × (is_some o ≡ true)
      by None e = cc
      by (Some m) e = (not_not m.live ∙ e, refl)

  box_in : (s : State) → Tells makes s → (id : ℕ) (make : Make) → map.get makes id ≡ Some make → map.contains_key s.maps id ≡ true → map.get (makes_in s) id ≡ Some make
  box_in s tells id make e there = by (map.get (makes_in s) id) refl (has-mapped make_in s.maps id ∙ there)
    where
      by : (o : Option Make) → map.get (makes_in s) id ≡ o → is_some o ≡ true → o ≡ Some make
      by None f has = cc
      by (Some other) f has = sym (tells id other f) ∙ e

  -- ---- the base
  base_kept : Listed → IdsUpTo l.map_id l.prog_id w → Tells makes w → IsKept makes_left (without_retired w w) l []
  base_kept listed within tells = record {
    tells = left_tells listed within w (record { maps = λ id there. inl there; progs = λ id there. inl there }) tells;
    within = left_within l w within;
    rises = tt;
    gave = λ id make e low new. gave id make (was_box id make e) low;
  }
    where
      gave : (id : ℕ) (make : Make) → (keeps_map l w id ≡ true) × (map.get makes id ≡ Some make) → id ≤ l.map_id → map.get (makes_in (without_retired w w)) id ≡ Some make
      gave id make was low =
          let live : is_live_in w (Map id) ≡ true = by (nat_lt l.map_id id) refl was.0 in
          let there = live_left id live in
          makes-left w w id ∙ ap (λ b. cond b (map.get (makes_in w) id) None) there.0 ∙ box_in w tells id make was.1 there.1
        where
          by : (b : Bool) → nat_lt l.map_id id ≡ b → (b || is_live_in w (Map id)) ≡ true → is_live_in w (Map id) ≡ true
          by true above e = absurd (grind (arith, nat_tests, above, low))
          by false above e = e

  -- ---- a later state
  later_kept : Listed → IdsUpTo l.map_id l.prog_id w → (s : State) (k : LastIds) (ks ls : List LastIds) → HasCome s w l → Each (IsUpTo l) ls → IsKept makes s k (ks ++ l ∷ ls) → IsKept makes_left (without_retired w s) k (ks ++ l ∷ [])
  later_kept listed within s k ks ls come older h = record {
    tells = left_tells listed within s come h.tells;
    within = left_within k s h.within;
    rises = Each-append (IsUpTo k) ks (l ∷ []) (Each-front (IsUpTo k) ks (l ∷ ls) h.rises) ((Each-rest (IsUpTo k) ks (l ∷ ls) h.rises).0, tt);
    gave = λ id make e low new.
        (let above : l.map_id < id = (Each-rest (λ (o : LastIds). o.map_id < id) ks (l ∷ []) new).0 in
        let all : Each (λ (o : LastIds). o.map_id < id) (ks ++ l ∷ ls) =
        Each-append (λ (o : LastIds). o.map_id < id) ks (l ∷ ls) (Each-front (λ (o : LastIds). o.map_id < id) ks (l ∷ []) new)
        (above, Each-map (IsUpTo l) (λ (o : LastIds). o.map_id < id) ls (λ o u. omega (arith, u.0, above)) older) in
        makes-left w s id ∙ ap (λ b. cond b (map.get (makes_in s) id) None) (not_retired_above within id above) ∙ h.gave id make (was_box id make e).1 low all);
  }

  left_come : (s t : State) (k : LastIds) → HasCome s t k → HasCome (without_retired w s) (without_retired w t) k
  left_come s t k h = record {
    maps = λ id there. (let was = was_left _ (map.get s.maps id) (sym (ap is_some (get-left w s id)) ∙ there) in
        elim (h.maps id was.1) [ inl at ↦ inl (ap is_some (get-left w t id) ∙ ap (λ b. is_some (cond b (map.get t.maps id) None)) was.0 ∙ at) | inr since ↦ inr since ]);
    progs = λ id there. (let was = was_left _ (map.get s.progs id) (sym (ap is_some (get-left_prog w s id)) ∙ there) in
        elim (h.progs id was.1) [ inl at ↦ inl (ap is_some (get-left_prog w t id) ∙ ap (λ b. is_some (cond b (map.get t.progs id) None)) was.0 ∙ at) | inr since ↦ inr since ]);
  }

  abbrev left : State → State
  left s = without_retired w s

  pub all_kept : Listed → (ts : List State) (ls : List LastIds) (us : List State) (ks : List LastIds) → length us ≡ length ks → Each (λ s. HasCome s w l) us → IsKept makes w l ls → AreKept makes (us ++ w ∷ ts) (ks ++ l ∷ ls) → AreKept makes_left (each left us ++ left w ∷ []) (ks ++ l ∷ [])
  all_kept listed ts ls [] [] len come top h = (base_kept listed top.within top.tells, tt)
  all_kept listed ts ls [] (k ∷ ks) len come top h = absurd (omega (arith, len))
  all_kept listed ts ls (u ∷ us) [] len come top h = absurd (omega (arith, len))
  all_kept listed ts ls (u ∷ us) (k ∷ ks) len come top h =
      (later_kept listed top.within u k ks ls come.0 top.rises h.0, all_kept listed ts ls us ks (omega (arith, len)) come.1 top h.1)

  pub all_come : (ts : List State) (ls : List LastIds) (us : List State) (ks : List LastIds) → length us ≡ length ks → AllCome (us ++ w ∷ ts) (ks ++ l ∷ ls) → AllCome (each left us ++ left w ∷ []) (ks ++ l ∷ [])
  all_come ts ls [] [] len h = (tt, tt)
  all_come ts ls [] (k ∷ ks) len h = absurd (omega (arith, len))
  all_come ts ls (u ∷ us) [] len h = absurd (omega (arith, len))
  all_come ts ls (u ∷ us) (k ∷ ks) len h = (first us ks h.0, all_come ts ls us ks (omega (arith, len)) h.1)
    where
      first : (us : List State) (ks : List LastIds) → HasComeFrom u (us ++ w ∷ ts) (ks ++ l ∷ ls) → HasComeFrom (left u) (each left us ++ left w ∷ []) (ks ++ l ∷ [])
      first [] [] g = left_come u w l g
      first [] (k ∷ ks) g = left_come u w k g
      first (t ∷ us) [] g = left_come u t l g
      first (t ∷ us) (k ∷ ks) g = left_come u t k g

  pub all_progs : IdsUpTo l.map_id l.prog_id w → (us : List State) → Each (λ s. HasCome s w l) us → Each (ListsProgs progs) us → Each (ListsProgs progs_left) (each left us)
  all_progs within [] come h = tt
  all_progs within (u ∷ us) come h = (one, all_progs within us come.1 h.1)
    where
      one : ListsProgs progs_left (left u)
      one id there =
          let was = was_left _ (map.get u.progs id) (sym (ap is_some (get-left_prog w u id)) ∙ there) in
          left_prog within u come.0 h.0 id was.1 ∙ was.0

  -- of each of these states just what is left is listed
  pub all_listed : Listed → IdsUpTo l.map_id l.prog_id w → (us : List State) → Each (λ s. HasCome s w l) us → Each (Tells makes) us → Each (ListsProgs progs) us → Each (JustListed maps_left progs_left w) us
  all_listed listed within [] come tells progs = tt
  all_listed listed within (u ∷ us) come tells progs = (record { maps_listed = at; progs_listed = left_prog within u come.0 progs.0 }, all_listed listed within us come.1 tells.1 progs.1)
    where
      at : (id : ℕ) → map.contains_key u.maps id ≡ true → is_among maps_left id ≡ not (is_retired_map (map.get w.maps id))
      at id there = by (map.get (makes_in u) id) refl (has-mapped make_in u.maps id ∙ there)
        where
          by : (o : Option Make) → map.get (makes_in u) id ≡ o → is_some o ≡ true → is_among maps_left id ≡ not (is_retired_map (map.get w.maps id))
          by None e has = cc
          by (Some make) e has = left_map listed within u come.0 tells.0 id make e

-- ---- all of it
each-left : (w : State) (force : List Entry) (us : List Past) → each state_of (each (based_on w force) us) ≡ each (without_retired w) (each state_of us)
each-left w force [] = refl
each-left w force (u ∷ us) = ap (λ xs. without_retired w u.state ∷ xs) (each-left w force us)

each-reverse : (f : State → State) (xs : List State) → each f (reverse xs) ≡ reverse (each f xs)
each-reverse f [] = refl
each-reverse f (x ∷ xs) =
    ap (each f) (reverse-append (x ∷ []) xs) ∙ map-append f (reverse xs) (x ∷ []) ∙ ap (λ ys. ys ++ f x ∷ []) (each-reverse f xs) ∙ sym (reverse-append (f x ∷ []) (each f xs))

states_left : (p : Pasts) → states_of (rebased p) ≡ each (without_retired (now p)) (reverse (each state_of p.undone)) ++ without_retired (now p) (now p) ∷ []
states_left p =
    ap (λ xs. reverse xs ++ without_retired (now p) (now p) ∷ []) (each-left (now p) (newest_force p.moments) p.undone)
    ∙ ap (λ xs. xs ++ without_retired (now p) (now p) ∷ []) (sym (each-reverse (without_retired (now p)) (each state_of p.undone)))

-- the newest and the older ones
record Top {X : Type 0} (x : X) (xs : List X) : Type 0 where
  rest : List X
  whole : xs ≡ x ∷ rest

top_state : (base : State) (ms : List Past) → Top (newest_state base ms) (each state_of ms ++ base ∷ [])
top_state base [] = record { rest = []; whole = refl }
top_state base (m ∷ ms) = record { rest = each state_of ms ++ base ∷ []; whole = refl }

top_last : (base : LastIds) (xs : List LastIds) → Top (newest (xs ++ base ∷ [])) (xs ++ base ∷ [])
top_last base [] = record { rest = []; whole = refl }
top_last base (x ∷ xs) = record { rest = xs ++ base ∷ []; whole = refl }

newest_same : (ks : List LastIds) (l : LastIds) (ls : List LastIds) → newest (ks ++ l ∷ []) ≡ newest (ks ++ l ∷ ls)
newest_same [] l ls = refl
newest_same (k ∷ ks) l ls = refl

-- what a book keeps of its boxes, with the state now and the last ids when it was made among them
abbrev pub last_now : LastIds → List LastIds → Pasts → LastIds
last_now base lasts p = newest (lasts_of base (take (length p.moments) lasts))

record Around (makes : ById Make) (maps progs : List ℕ) (p : Pasts) (base : LastIds) (lasts : List LastIds) : Type 0 where
  us : List State
  us_is : us ≡ reverse (each state_of p.undone)
  ks : List LastIds
  ks_is : ks ≡ reverse (drop (length p.moments) lasts)
  ts : List State
  ls : List LastIds
  len : length us ≡ length ks
  keeps : KeepsBoxes makes (us ++ now p ∷ ts) (ks ++ last_now base lasts p ∷ ls) maps progs

around : (makes : ById Make) (maps progs : List ℕ) (p : Pasts) (base : LastIds) (lasts : List LastIds) → KeepsBoxes makes (states_of p) (lasts_of base lasts) maps progs → Around makes maps progs p base lasts
around makes maps progs p base lasts h =
    let n : ℕ = length p.moments in
    let us : List State = reverse (each state_of p.undone) in
    let ks : List LastIds = reverse (drop n lasts) in
    let t : Top (now p) (each state_of p.moments ++ p.base ∷ []) = top_state p.base p.moments in
    let l : Top (last_now base lasts p) (lasts_of base (take n lasts)) = top_last base (reverse (take n lasts)) in
    record {
      us = us;
      us_is = refl;
      ks = ks;
      ks_is = refl;
      ts = t.rest;
      ls = l.rest;
      len = omega (
        arith,
        AreKept-length makes (states_of p) (lasts_of base lasts) h.kept,
        length-append us (each state_of p.moments ++ p.base ∷ []),
        length-append (each state_of p.moments) (p.base ∷ []),
        length-map p.moments state_of,
        length-append (reverse lasts) (base ∷ []),
        length-reverse lasts,
        length-reverse (drop n lasts),
        length-drop n lasts,
      );
      keeps = subst (λ (x : List State × List LastIds). KeepsBoxes makes x.0 x.1 maps progs) (λ i. (us ++ t.whole i, (lasts-parts base n lasts ∙ ap (λ xs. ks ++ xs) l.whole) i)) h;
    }

-- each moment has its last ids
pub enough_lasts : (makes : ById Make) (maps progs : List ℕ) (p : Pasts) (base : LastIds) (lasts : List LastIds) → KeepsBoxes makes (states_of p) (lasts_of base lasts) maps progs → length p.moments ≤ length lasts
enough_lasts makes maps progs p base lasts h =
    omega (
      arith,
      AreKept-length makes (states_of p) (lasts_of base lasts) h.kept,
      length-append (reverse (each state_of p.undone)) (each state_of p.moments ++ p.base ∷ []),
      length-append (each state_of p.moments) (p.base ∷ []),
      length-map p.moments state_of,
      length-append (reverse lasts) (base ∷ []),
      length-reverse lasts,
    )

pub KeepsBoxes-rebased : (makes : ById Make) (maps progs : List ℕ) (p : Pasts) (base : LastIds) (lasts : List LastIds) → KeepsBoxes makes (states_of p) (lasts_of base lasts) maps progs →
    let w = now p in
    let l = last_now base lasts p in
    KeepsBoxes (makes_left makes maps progs w l) (states_of (rebased p)) (lasts_of l (drop (length p.moments) lasts)) (maps_left makes maps progs w l) (progs_left makes maps progs w l)
KeepsBoxes-rebased makes maps progs p base lasts h =
    let w : State = now p in
    let l : LastIds = last_now base lasts p in
    let a : Around makes maps progs p base lasts = around makes maps progs p base lasts h in
    let k = a.keeps in
    let top : IsKept makes w l a.ls = (AreKept-rest makes a.us (w ∷ a.ts) a.ks (l ∷ a.ls) a.len k.kept).0 in
    let come : Each (λ s. HasCome s w l) a.us = come_since w a.ts l a.ls makes a.us a.ks k.kept k.come a.len in
    let ms : List ℕ = maps_left makes maps progs w l in
    let ps : List ℕ = progs_left makes maps progs w l in
    let same : newest (a.ks ++ l ∷ []) ≡ newest (a.ks ++ l ∷ a.ls) = newest_same a.ks l a.ls in
    subst (λ (x : List State × List LastIds). KeepsBoxes (makes_left makes maps progs w l) x.0 x.1 ms ps)
    (λ i. ((ap (λ us. each (without_retired w) us ++ without_retired w w ∷ []) a.us_is ∙ sym (states_left p)) i, ap (λ ks. ks ++ l ∷ []) a.ks_is i))
    (record {
      kept = all_kept makes maps progs w l k.ids a.ts a.ls a.us a.ks a.len come top k.kept;
      come = all_come makes maps progs w l a.ts a.ls a.us a.ks a.len k.come;
      ids = λ id. there id (is_among ms id) refl ∙ sym (ap is_some (get-makes_left makes maps progs w l id));
      maps_below = λ id e. subst (λ n. id ≤ n) (ap (λ (n : LastIds). n.map_id) (sym same)) (k.maps_below id (among_was (keeps_map l w) maps id e).1);
      progs_below = λ id e. subst (λ n. id ≤ n) (ap (λ (n : LastIds). n.prog_id) (sym same)) (k.progs_below id (among_was (keeps_prog l w) progs id e).1);
      maps_ascend = Rises-some (keeps_map l w) maps k.maps_ascend;
      progs_ascend = Rises-some (keeps_prog l w) progs k.progs_ascend;
      progs_listed =
          Each-append (ListsProgs ps) (each (without_retired w) a.us) (without_retired w w ∷ [])
          (all_progs makes maps progs w l top.within a.us come (Each-front (ListsProgs progs) a.us (w ∷ a.ts) k.progs_listed))
          (all_progs makes maps progs w l top.within (w ∷ []) (itself, tt) ((Each-rest (ListsProgs progs) a.us (w ∷ a.ts) k.progs_listed).0, tt));
      base_lives = lives_in (each (without_retired w) a.us) (without_retired w w) (none_left w);
    })
  where
    itself : HasCome (now p) (now p) (last_now base lasts p)
    itself = record { maps = λ id e. inl e; progs = λ id e. inl e }

    there : (id : ℕ) (b : Bool) → is_among (maps_left makes maps progs (now p) (last_now base lasts p)) id ≡ b → b ≡ is_some (cond b (map.get makes id) None)
    there id true e = sym (sym (h.ids id) ∙ (among_was (keeps_map (last_now base lasts p) (now p)) maps id e).1)
    there id false e = refl

-- of the state now, and of each undone moment's, just what is left is listed
pub record AreListed (maps progs : List ℕ) (p : Pasts) : Type 0 where
  pub base : JustListed maps progs (now p) (now p)
  pub undone : Each (λ (m : Past). JustListed maps progs (now p) m.state) p.undone

pub are_listed : (makes : ById Make) (maps progs : List ℕ) (p : Pasts) (base : LastIds) (lasts : List LastIds) → KeepsBoxes makes (states_of p) (lasts_of base lasts) maps progs →
    let w = now p in
    let l = last_now base lasts p in
    AreListed (maps_left makes maps progs w l) (progs_left makes maps progs w l) p
are_listed makes maps progs p base lasts h =
    let w : State = now p in
    let l : LastIds = last_now base lasts p in
    let a : Around makes maps progs p base lasts = around makes maps progs p base lasts h in
    let k = a.keeps in
    let top : IsKept makes w l a.ls = (AreKept-rest makes a.us (w ∷ a.ts) a.ks (l ∷ a.ls) a.len k.kept).0 in
    let come : Each (λ s. HasCome s w l) a.us = come_since w a.ts l a.ls makes a.us a.ks k.kept k.come a.len in
    let tells : Each (Tells makes) (a.us ++ w ∷ a.ts) = tells_each makes (a.us ++ w ∷ a.ts) (a.ks ++ l ∷ a.ls) k.kept in
    let P : State → Type 0 = JustListed (maps_left makes maps progs w l) (progs_left makes maps progs w l) w in
    let undone : Each P a.us = all_listed makes maps progs w l k.ids top.within a.us come (Each-front (Tells makes) a.us (w ∷ a.ts) tells) (Each-front (ListsProgs progs) a.us (w ∷ a.ts) k.progs_listed) in
    record {
      base = (all_listed makes maps progs w l k.ids top.within (w ∷ []) (record { maps = λ id e. inl e; progs = λ id e. inl e }, tt) (top.tells, tt) ((Each-rest (ListsProgs progs) a.us (w ∷ a.ts) k.progs_listed).0, tt)).0;
      undone = each_of P p.undone (subst (Each P) (reverse-reverse (each state_of p.undone)) (Each-reverse P (reverse (each state_of p.undone)) (subst (Each P) a.us_is undone)));
    }
  where
    each_of : (P : State → Type 0) (ms : List Past) → Each P (each state_of ms) → Each (λ (m : Past). P m.state) ms
    each_of P [] h = tt
    each_of P (m ∷ ms) h = (h.0, each_of P ms h.1)

-- the ids of the state now are not above the last, and what a later state has was there then or has come since
pub record SinceNow (p : Pasts) (l : LastIds) : Type 0 where
  pub within : IdsUpTo l.map_id l.prog_id (now p)
  pub come : Each (λ s. HasCome s (now p) l) (each state_of p.undone)

pub since_now : (makes : ById Make) (maps progs : List ℕ) (p : Pasts) (base : LastIds) (lasts : List LastIds) → KeepsBoxes makes (states_of p) (lasts_of base lasts) maps progs → SinceNow p (last_now base lasts p)
since_now makes maps progs p base lasts h =
    let w : State = now p in
    let l : LastIds = last_now base lasts p in
    let a : Around makes maps progs p base lasts = around makes maps progs p base lasts h in
    let P : State → Type 0 = λ s. HasCome s w l in
    let come : Each P a.us = come_since w a.ts l a.ls makes a.us a.ks a.keeps.kept a.keeps.come a.len in
    record {
      within = (AreKept-rest makes a.us (w ∷ a.ts) a.ks (l ∷ a.ls) a.len a.keeps.kept).0.within;
      come = subst (Each P) (reverse-reverse (each state_of p.undone)) (Each-reverse P (reverse (each state_of p.undone)) (subst (Each P) a.us_is come));
    }

-- none of the last ids is above
pub lasts_rebased : (last base : LastIds) (lasts : List LastIds) (n : ℕ) → Each (IsUpTo last) (lasts_of base lasts) → Each (IsUpTo last) (lasts_of (newest (lasts_of base (take n lasts))) (drop n lasts))
lasts_rebased last base lasts n h =
    let parts : Each (IsUpTo last) (reverse (drop n lasts) ++ lasts_of base (take n lasts)) = subst (Each (IsUpTo last)) (lasts-parts base n lasts) h in
    Each-append (IsUpTo last) (reverse (drop n lasts)) (newest (lasts_of base (take n lasts)) ∷ []) (Each-front (IsUpTo last) (reverse (drop n lasts)) (lasts_of base (take n lasts)) parts)
    (newest_up last (lasts_of base (take n lasts)) (Each-rest (IsUpTo last) (reverse (drop n lasts)) (lasts_of base (take n lasts)) parts), tt)

-- ---- SPLIT: what the timeline asks for
-- each object is listed, or it has retired
pub lists_left : (maps progs : List ℕ) (p : Pasts) → AreListed maps progs p → ListsAllLeft maps progs (on_new_base p)
lists_left maps progs p h = record { in_base = one (now p) h.base; in_moments = tt; in_undone = all (newest_force p.moments) p.undone h.undone }
  where
    either : (a b : Bool) → a ≡ not b → IsTrue a ⊎ IsTrue b
    either a true e = inr refl
    either a false e = inl e

    one : (s : State) → JustListed maps progs (now p) s → ListsLeft maps progs (now p) s
    one s j = record {
      maps_listed = λ id m there. either (is_among maps id) (is_retired_map (map.get (now p).maps id)) (j.maps_listed id (ap is_some there));
      progs_listed = λ id q there. either (is_among progs id) (is_retired_prog (map.get (now p).progs id)) (j.progs_listed id (ap is_some there));
    }

    all : (force : List Entry) (us : List Past) → Each (λ (m : Past). JustListed maps progs (now p) m.state) us → Each (λ (m : Past). ListsLeft maps progs (now p) m.state) (each (shortened force) us)
    all force [] h = tt
    all force (u ∷ us) h = (one u.state h.0, all force us h.1)

-- the moments that are left are those of the new base
pub kept_rebased : (maps progs : List ℕ) (p : Pasts) → AreListed maps progs p → kept_pasts maps progs (on_new_base p) ≡ rebased p
kept_rebased maps progs p h =
    ap (λ b. let q : Pasts = record { base = b; moments = []; undone = each (kept_past maps progs) (each (shortened (newest_force p.moments)) p.undone) } in q) (left_is maps progs (now p) (now p) h.base)
    ∙ ap (λ us. let q : Pasts = record { base = without_retired (now p) (now p); moments = []; undone = us } in q) (all (newest_force p.moments) p.undone h.undone)
  where
    all : (force : List Entry) (us : List Past) → Each (λ (m : Past). JustListed maps progs (now p) m.state) us → each (kept_past maps progs) (each (shortened force) us) ≡ each (based_on (now p) force) us
    all force [] h = refl
    all force (u ∷ us) h =
        ap (λ s. record u { force = drop (length force) u.force; state = s } ∷ each (kept_past maps progs) (each (shortened force) us)) (left_is maps progs (now p) u.state h.0)
        ∙ ap (λ xs. based_on (now p) force u ∷ xs) (all force us h.1)
