-- The state after some moments becomes the base, and the later ones stay where they are.
use Rattle.std.proofs.Common.{◌≡◌, inl, inr, ℕ, zero, suc, ◌-◌, ◌≤◌, ◌||◌, ◌&&◌, not, Bool, true, false, List, [], ◌∷◌, ◌++◌, length, filter, reverse, take, drop, map as each, Option, Some, None, is_some, refl, sym, ◌∙◌, ap, ap₂, subst, arith}
use Rattle.std.specs.Prelude.{nat_lt}
use Rattle.std.specs.FinMap as map
use Rattle.std.proofs.lemmas.List.{reverse-append, reverse-reverse, append_assoc, map-append, take-append-drop, take-map, drop-map, length-drop}
use Rattle.std.proofs.lemmas.Bool.Decides.{nat_tests}
use Rattle.bt_objects.specs.declared.make.Make.{Make}
use Rattle.bt_roots.specs.declared.target.Target.TheVariants.{Map, Prog}
use Rattle.bt_objects.specs.ById.{ById}
use Rattle.host_state.specs.State.{HostMap, HostProg, State}
use Rattle.host_state.specs.Settled.{is_live_map, is_live_prog}
use Rattle.journal_model.specs.Plain.{Past, Pasts, now, newest_state, cut}
use Rattle.journal_model.specs.Rebase.{is_retired_map, is_retired_prog, forth_by, rebased, advanced}
use Rattle.journal_model.specs.Well.{Each, IdsUpTo}
use Rattle.journal_model.proofs.Lists.{Each-append, Each-front, Each-rest, Each-reverse}
use Rattle.journal_timeline.specs.Retired.{has_retired, StayIn}
use Rattle.journal_timeline.specs.Rebased.{ListsLeft, ListsAllLeft, kept_past, kept_pasts, on_new_base}
use Rattle.journal_keeping.specs.Boxes.{states_of, lasts_of, newest, HasCome, KeepsBoxes, keeps_map, keeps_prog}
use Rattle.journal_keeping.specs.declared.ids.LastIds.{LastIds}
use Rattle.journal_keeping.proofs.BoxesLemmas.{state_of}
use Rattle.journal_keeping.proofs.RebaseLemmas.{maps_left, progs_left, makes_left, last_now, AreListed, are_listed, lists_left, kept_rebased, KeepsBoxes-rebased, SinceNow, since_now}
use Rattle.journal_timeline.proofs.AscendLemmas.{filter-same, filter-twice}

each-reversed : {X Y : Type 0} (f : X → Y) (xs : List X) → each f (reverse xs) ≡ reverse (each f xs)
each-reversed f [] = refl
each-reversed f (x ∷ xs) =
    ap (each f) (reverse-append (x ∷ []) xs) ∙ map-append f (reverse xs) (x ∷ []) ∙ ap (λ ys. ys ++ f x ∷ []) (each-reversed f xs) ∙ sym (reverse-append (f x ∷ []) (each f xs))

-- moments that pass from those in force to the undone ones, or back, stay in order among all
passing : (us ms : List Past) → reverse (each state_of (reverse us ++ ms)) ≡ reverse (each state_of ms) ++ each state_of us
passing us ms =
    ap reverse (map-append state_of (reverse us) ms ∙ ap (λ xs. xs ++ each state_of ms) (each-reversed state_of us))
    ∙ reverse-append (reverse (each state_of us)) (each state_of ms)
    ∙ ap (λ xs. reverse (each state_of ms) ++ xs) (reverse-reverse (each state_of us))

pub states_cut : (count : ℕ) (p : Pasts) → states_of (cut count p) ≡ states_of p
states_cut count p =
    let k : ℕ = length p.moments - count in
    let base : List State = p.base ∷ [] in
    ap (λ xs. xs ++ (each state_of (drop k p.moments) ++ base)) (passing (take k p.moments) p.undone)
    ∙ append_assoc (reverse (each state_of p.undone)) (each state_of (take k p.moments)) (each state_of (drop k p.moments) ++ base)
    ∙ ap (λ xs. reverse (each state_of p.undone) ++ xs)
    (sym (append_assoc (each state_of (take k p.moments)) (each state_of (drop k p.moments)) base)
    ∙ ap (λ xs. xs ++ base) (sym (map-append state_of (take k p.moments) (drop k p.moments)) ∙ ap (each state_of) (take-append-drop k p.moments)))

pub states_forth : (k : ℕ) (p : Pasts) → states_of (forth_by k p) ≡ states_of p
states_forth k p =
    let base : List State = p.base ∷ [] in
    let later : List State = reverse (each state_of (drop k p.undone)) in
    ap (λ xs. later ++ (xs ++ base)) (map-append state_of (reverse (take k p.undone)) p.moments ∙ ap (λ xs. xs ++ each state_of p.moments) (each-reversed state_of (take k p.undone)))
    ∙ ap (λ xs. later ++ xs) (append_assoc (reverse (each state_of (take k p.undone))) (each state_of p.moments) base)
    ∙ sym (append_assoc later (reverse (each state_of (take k p.undone))) (each state_of p.moments ++ base))
    ∙ ap (λ xs. xs ++ (each state_of p.moments ++ base))
    (sym (reverse-append (each state_of (take k p.undone)) (each state_of (drop k p.undone)))
    ∙ ap reverse (sym (map-append state_of (take k p.undone) (drop k p.undone)) ∙ ap (each state_of) (take-append-drop k p.undone)))

pub length_cut : (count : ℕ) (p : Pasts) → count ≤ length p.moments → length (cut count p).moments ≡ count
length_cut count p within = omega (arith, length-drop (length p.moments - count) p.moments)

-- what is kept of each moment
pub kept_forth : (maps progs : List ℕ) (k : ℕ) (p : Pasts) → kept_pasts maps progs (forth_by k p) ≡ forth_by k (kept_pasts maps progs p)
kept_forth maps progs k p =
    let f : Past → Past = kept_past maps progs in
    let base : State = (kept_pasts maps progs p).base in
    ap₂ (λ ms us. let q : Pasts = record { base = base; moments = ms; undone = us } in q)
    (map-append f (reverse (take k p.undone)) p.moments ∙ ap (λ xs. xs ++ each f p.moments) (each-reversed f (take k p.undone) ∙ ap reverse (sym (take-map f k p.undone))))
    (sym (drop-map f k p.undone))

pub lists_forth : (maps progs : List ℕ) (k : ℕ) (p : Pasts) → ListsAllLeft maps progs p → ListsAllLeft maps progs (forth_by k p)
lists_forth maps progs k p h =
    let P : Past → Type 0 = λ m. ListsLeft maps progs p.base m.state in
    let us : Each P (take k p.undone ++ drop k p.undone) = subst (Each P) (sym (take-append-drop k p.undone)) h.in_undone in
    record {
      in_base = h.in_base;
      in_moments = Each-append P (reverse (take k p.undone)) p.moments (Each-reverse P (take k p.undone) (Each-front P (take k p.undone) (drop k p.undone) us)) h.in_moments;
      in_undone = Each-rest P (take k p.undone) (drop k p.undone) us;
    }

-- ---- which ids are kept
-- what is there in a state w is there in a later state v, and what is there then was there or has come since
pub record Later (w v : State) (l : LastIds) : Type 0 where
  pub maps_stay : (id : ℕ) → map.contains_key w.maps id ≡ true → map.contains_key v.maps id ≡ true
  pub progs_stay : (id : ℕ) → map.contains_key w.progs id ≡ true → map.contains_key v.progs id ≡ true
  pub within : IdsUpTo l.map_id l.prog_id w
  pub come : HasCome v w l

map_test : (w v : State) (l : LastIds) → Later w v l → (id : ℕ) → (nat_lt l.map_id id || map.contains_key v.maps id) && not (has_retired w (Map id)) ≡ keeps_map l w id
map_test w v l h id = by (nat_lt l.map_id id) refl (map.get w.maps id) refl (map.contains_key v.maps id) refl
  where
    by : (above : Bool) → nat_lt l.map_id id ≡ above → (o : Option HostMap) → map.get w.maps id ≡ o → (there : Bool) → map.contains_key v.maps id ≡ there → (above || there) && not (is_retired_map o) ≡ above || is_live_map o
    by true a None e there f = refl
    by true a (Some m) e there f = let low : id ≤ l.map_id = h.within.maps id (ap is_some e) in absurd (grind (arith, nat_tests, a, low))
    by false a None e false f = refl
    by false a None e true f = elim (h.come.maps id f) [ inl was ↦ cc (sym was ∙ ap is_some e) | inr since ↦ absurd (grind (arith, nat_tests, a, since)) ]
    by false a (Some m) e false f = cc (sym (h.maps_stay id (ap is_some e)) ∙ f)
    by false a (Some m) e true f = twice m.live
      where
        twice : (b : Bool) → not (not b) ≡ b
        twice true = refl
        twice false = refl

prog_test : (w v : State) (l : LastIds) → Later w v l → (id : ℕ) → (nat_lt l.prog_id id || map.contains_key v.progs id) && not (has_retired w (Prog id)) ≡ keeps_prog l w id
prog_test w v l h id = by (nat_lt l.prog_id id) refl (map.get w.progs id) refl (map.contains_key v.progs id) refl
  where
    by : (above : Bool) → nat_lt l.prog_id id ≡ above → (o : Option HostProg) → map.get w.progs id ≡ o → (there : Bool) → map.contains_key v.progs id ≡ there → (above || there) && not (is_retired_prog o) ≡ above || is_live_prog o
    by true a None e there f = refl
    by true a (Some p) e there f = let low : id ≤ l.prog_id = h.within.progs id (ap is_some e) in absurd (grind (arith, nat_tests, a, low))
    by false a None e false f = refl
    by false a None e true f = elim (h.come.progs id f) [ inl was ↦ cc (sym was ∙ ap is_some e) | inr since ↦ absurd (grind (arith, nat_tests, a, since)) ]
    by false a (Some p) e false f = cc (sym (h.progs_stay id (ap is_some e)) ∙ f)
    by false a (Some p) e true f = twice p.live
      where
        twice : (b : Bool) → not (not b) ≡ b
        twice true = refl
        twice false = refl

pub maps_kept : (w v : State) (l : LastIds) → Later w v l → (ids : List ℕ) → filter (λ id. not (has_retired w (Map id))) (filter (λ id. nat_lt l.map_id id || map.contains_key v.maps id) ids) ≡ filter (keeps_map l w) ids
maps_kept w v l h ids = filter-twice (λ id. nat_lt l.map_id id || map.contains_key v.maps id) (λ id. not (has_retired w (Map id))) ids ∙ filter-same _ _ (map_test w v l h) ids

pub progs_kept : (w v : State) (l : LastIds) → Later w v l → (ids : List ℕ) → filter (λ id. not (has_retired w (Prog id))) (filter (λ id. nat_lt l.prog_id id || map.contains_key v.progs id) ids) ≡ filter (keeps_prog l w) ids
progs_kept w v l h ids = filter-twice (λ id. nat_lt l.prog_id id || map.contains_key v.progs id) (λ id. not (has_retired w (Prog id))) ids ∙ filter-same _ _ (prog_test w v l h) ids

-- ---- the state as it is now, among those of the later moments or with none later
now_among : (P : State → Type 0) (count : ℕ) (p : Pasts) → Each P (each state_of (cut count p).undone) → P (now (cut count p)) → P (now p)
now_among P count p h w = by p.moments (length p.moments - count) h w
  where
    by : (ms : List Past) (k : ℕ) → Each P (each state_of (reverse (take k ms) ++ p.undone)) → P (newest_state p.base (drop k ms)) → P (newest_state p.base ms)
    by [] zero h w = w
    by [] (suc k) h w = w
    by (m ∷ ms) zero h w = w
    by (m ∷ ms) (suc k) h w =
        let later : List State = each state_of (take (suc k) (m ∷ ms)) in
        let front : Each P (reverse later) =
        Each-front P (reverse later) (each state_of p.undone)
        (subst (Each P) (map-append state_of (reverse (take (suc k) (m ∷ ms))) p.undone ∙ ap (λ xs. xs ++ each state_of p.undone) (each-reversed state_of (take (suc k) (m ∷ ms)))) h) in
        (subst (Each P) (reverse-reverse later) (Each-reverse P (reverse later) front)).0

-- what is kept of a book whose state after `count` moments becomes the base
module _ (makes : ById Make) (maps progs : List ℕ) (p : Pasts) (base : LastIds) (lasts : List LastIds) (count : ℕ) (within : count ≤ length p.moments) (keeps : KeepsBoxes makes (states_of p) (lasts_of base lasts) maps progs) where
  abbrev pub before : Pasts
  before = cut count p

  abbrev pub last : LastIds
  last = last_now base lasts before

  pub last_is : newest (lasts_of base (take count lasts)) ≡ last
  last_is = ap (λ n. newest (lasts_of base (take n lasts))) (sym (length_cut count p within))

  pub keeps_before : KeepsBoxes makes (states_of before) (lasts_of base lasts) maps progs
  keeps_before = subst (λ ss. KeepsBoxes makes ss (lasts_of base lasts) maps progs) (sym (states_cut count p)) keeps

  since : SinceNow before last
  since = since_now makes maps progs before base lasts keeps_before

  pub later : StayIn (now before) (now p) → Later (now before) (now p) last
  later stay = record {
    maps_stay = stay.maps;
    progs_stay = stay.progs;
    within = since.within;
    come = now_among (λ s. HasCome s (now before) last) count p since.come (record { maps = λ id e. inl e; progs = λ id e. inl e });
  }

  pub rest_is : drop count lasts ≡ drop (length before.moments) lasts
  rest_is = ap (λ n. drop n lasts) (sym (length_cut count p within))

  abbrev pub maps_then : List ℕ
  maps_then = maps_left makes maps progs (now before) last

  abbrev pub progs_then : List ℕ
  progs_then = progs_left makes maps progs (now before) last

  pub keeps_after : KeepsBoxes (makes_left makes maps progs (now before) last) (states_of (advanced count p)) (lasts_of last (drop count lasts)) maps_then progs_then
  keeps_after =
      subst (λ (x : List State × List LastIds). KeepsBoxes (makes_left makes maps progs (now before) last) x.0 (lasts_of last x.1) maps_then progs_then)
      (λ i. (sym (states_forth (length p.moments - count) (rebased before)) i, sym rest_is i))
      (KeepsBoxes-rebased makes maps progs before base lasts keeps_before)

  listed : AreListed maps_then progs_then before
  listed = are_listed makes maps progs before base lasts keeps_before

  pub listed_after : ListsAllLeft maps_then progs_then (forth_by (length p.moments - count) (on_new_base before))
  listed_after = lists_forth maps_then progs_then (length p.moments - count) (on_new_base before) (lists_left maps_then progs_then before listed)

  pub pasts_after : kept_pasts maps_then progs_then (forth_by (length p.moments - count) (on_new_base before)) ≡ advanced count p
  pasts_after = kept_forth maps_then progs_then (length p.moments - count) (on_new_base before) ∙ ap (forth_by (length p.moments - count)) (kept_rebased maps_then progs_then before listed)
