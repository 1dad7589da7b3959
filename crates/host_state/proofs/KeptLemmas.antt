-- What is left of a state without the objects that are not listed, if each live object is: the same is live and reached,
-- and it stays settled.
use Rattle.std.proofs.Common.{◌≡◌, ℕ, Bool, true, false, IsTrue, List, Contains, Option, Some, None, cond, inl, inr, refl, sym, ap, subst, ◌∙◌}
use Rattle.std.specs.Prelude.{◌⊎◌}
use Rattle.std.specs.Option.{option_map}
use Rattle.std.specs.FinMap as map
use Rattle.std.specs.Ordering.{nat_cmp, eq_by_cmp}
use Rattle.bt_objects.specs.Ids.{is_among}
use Rattle.bt_roots.specs.declared.target.Target.{Target}
use Rattle.bt_roots.specs.declared.target.Target.TheVariants.{Map, Prog}
use Rattle.bt_roots.specs.Reachable.{IsRoot}
use Rattle.bt_objects.specs.ById.{ById, mapped, put_at}
use Rattle.host_state.specs.State.{HostMap, HostProg, State}
use Rattle.host_state.specs.Settled.{links_of, is_reached, IsSettled, is_live_map, is_live_prog, is_live_in}
use Rattle.host_state.specs.World.{ListsLive, kept_state}
use Rattle.host_state.proofs.ByIdLemmas.{same_map, same_of, get-mapped, get-put_at}
use Rattle.host_state.proofs.LinkedLemmas.{from_links, to_links_map, to_links_prog, IsMapLink, IsProgLink, root_reached, next_reached, all_reached}
use Rattle.host_state.proofs.Lasting.{get-kept}

same_truth : (a b : Bool) → (a ≡ true → b ≡ true) → (b ≡ true → a ≡ true) → a ≡ b
same_truth true b forth back = sym (forth refl)
same_truth false true forth back = back refl
same_truth false false forth back = refl

-- ---- finite maps of which some ids are kept
pub found_kept : {X : Type 0} (b : Bool) (o : Option X) (x : X) → cond b o None ≡ Some x → o ≡ Some x
found_kept true o x e = e
found_kept false o x e = cc

pub here_kept : {X : Type 0} (ids : List ℕ) (m : ById X) (id : ℕ) → is_among ids id ≡ true → map.get (map.retain_keys m (is_among ids)) id ≡ map.get m id
here_kept ids m id listed = get-kept ids m id ∙ ap (λ b. cond b (map.get m id) None) listed

pub kept_put : {X : Type 0} (ids : List ℕ) (m : ById X) (id : ℕ) (x : Option X) → is_among ids id ≡ true → map.retain_keys (put_at m id x) (is_among ids) ≡ put_at (map.retain_keys m (is_among ids)) id x
kept_put {X} ids m id x listed =
    same_map _ _ (λ q.
    get-kept ids (put_at m id x) q ∙ ap (λ o. cond (is_among ids q) o None) (get-put_at m id q x) ∙ here q (eq_by_cmp nat_cmp q id) refl
    ∙ ap (cond (eq_by_cmp nat_cmp q id) x) (sym (get-kept ids m q)) ∙ sym (get-put_at (map.retain_keys m (is_among ids)) id q x))
  where
    here : (q : ℕ) (tied : Bool) → eq_by_cmp nat_cmp q id ≡ tied → cond (is_among ids q) (cond tied x (map.get m q)) None ≡ cond tied x (cond (is_among ids q) (map.get m q) None)
    here q true tied = ap (λ b. cond b x None) (ap (is_among ids) (same_of q id tied) ∙ listed)
    here q false apart = refl

pub kept_mapped : {X Y : Type 0} (ids : List ℕ) (f : ℕ → X → Y) (m : ById X) → map.retain_keys (mapped f m) (is_among ids) ≡ mapped f (map.retain_keys m (is_among ids))
kept_mapped {X} {Y} ids f m =
    same_map _ _ (λ q.
    get-kept ids (mapped f m) q ∙ ap (λ o. cond (is_among ids q) o None) (get-mapped f m q) ∙ inside q (is_among ids q) (map.get m q)
    ∙ ap (option_map (f q)) (sym (get-kept ids m q)) ∙ sym (get-mapped f (map.retain_keys m (is_among ids)) q))
  where
    inside : (q : ℕ) (b : Bool) (o : Option X) → cond b (option_map (f q) o) None ≡ option_map (f q) (cond b o None)
    inside q true o = refl
    inside q false o = refl

module _ (maps progs : List ℕ) where
  -- an object stays
  abbrev pub Stays : Target → Type 0
  Stays (Map id) = is_among maps id ≡ true
  Stays (Prog id) = is_among progs id ≡ true

  abbrev kept : State → State
  kept s = kept_state maps progs s

  -- ---- what is live stays
  pub live_stays : (s : State) → ListsLive maps progs s → (t : Target) → IsTrue (is_live_in s t) → Stays t
  live_stays s lists (Map id) live = by (map.get s.maps id) refl live
    where
      by : (o : Option HostMap) → map.get s.maps id ≡ o → is_live_map o ≡ true → is_among maps id ≡ true
      by None is live = cc
      by (Some m) is live = lists.maps_listed id m is live
  live_stays s lists (Prog id) live = by (map.get s.progs id) refl live
    where
      by : (o : Option HostProg) → map.get s.progs id ≡ o → is_live_prog o ≡ true → is_among progs id ≡ true
      by None is live = cc
      by (Some p) is live = lists.progs_listed id p is live

  here_live : (s : State) (t : Target) → Stays t → is_live_in (kept s) t ≡ is_live_in s t
  here_live s (Map id) stays = ap is_live_map (here_kept maps s.maps id stays)
  here_live s (Prog id) stays = ap is_live_prog (here_kept progs s.progs id stays)

  kept_was_live : (s : State) (t : Target) → IsTrue (is_live_in (kept s) t) → IsTrue (is_live_in s t)
  kept_was_live s (Map id) live = by (is_among maps id) (map.get s.maps id) (sym (ap is_live_map (get-kept maps s.maps id)) ∙ live)
    where
      by : (b : Bool) (o : Option HostMap) → is_live_map (cond b o None) ≡ true → is_live_map o ≡ true
      by true o e = e
      by false o e = cc
  kept_was_live s (Prog id) live = by (is_among progs id) (map.get s.progs id) (sym (ap is_live_prog (get-kept progs s.progs id)) ∙ live)
    where
      by : (b : Bool) (o : Option HostProg) → is_live_prog (cond b o None) ≡ true → is_live_prog o ≡ true
      by true o e = e
      by false o e = cc

  pub same_live : (s : State) → ListsLive maps progs s → (t : Target) → is_live_in (kept s) t ≡ is_live_in s t
  same_live s lists t = same_truth (is_live_in (kept s) t) (is_live_in s t) (kept_was_live s t) (λ live. here_live s t (live_stays s lists t live) ∙ live)

  -- ---- what is reached stays
  links_in : (s : State) (from to : Target) → Contains (links_of (kept s)) (from, to) → Contains (links_of s) (from, to)
  links_in s from to there = by (from_links (kept s) (from, to) there)
    where
      by : IsProgLink (kept s) (from, to) ⊎ IsMapLink (kept s) (from, to) → Contains (links_of s) (from, to)
      by (inl l) =
          subst (Contains (links_of s)) (sym l.is) (to_links_prog s l.id l.prog l.named (found_kept (is_among progs l.id) (map.get s.progs l.id) l.prog (sym (get-kept progs s.progs l.id) ∙ l.there)) l.has)
      by (inr l) =
          subst (Contains (links_of s)) (sym l.is) (to_links_map s l.id l.host l.named (found_kept (is_among maps l.id) (map.get s.maps l.id) l.host (sym (get-kept maps s.maps l.id) ∙ l.there)) l.has)

  links_out : (s : State) (from to : Target) → Stays from → Contains (links_of s) (from, to) → Contains (links_of (kept s)) (from, to)
  links_out s from to stays there = by (from_links s (from, to) there)
    where
      by : IsProgLink s (from, to) ⊎ IsMapLink s (from, to) → Contains (links_of (kept s)) (from, to)
      by (inl l) =
          subst (Contains (links_of (kept s))) (sym l.is)
          (to_links_prog (kept s) l.id l.prog l.named (here_kept progs s.progs l.id (subst Stays (ap (λ (x : Target × Target). x.0) l.is) stays) ∙ l.there) l.has)
      by (inr l) =
          subst (Contains (links_of (kept s))) (sym l.is)
          (to_links_map (kept s) l.id l.host l.named (here_kept maps s.maps l.id (subst Stays (ap (λ (x : Target × Target). x.0) l.is) stays) ∙ l.there) l.has)

  abbrev pub ReachedStays : State → Type 0
  ReachedStays s = (t : Target) → IsTrue (is_reached s t) → Stays t

  pub same_reached : (s : State) → ReachedStays s → (t : Target) → is_reached (kept s) t ≡ is_reached s t
  same_reached s stays t =
      same_truth (is_reached (kept s) t) (is_reached s t)
      (all_reached (kept s) (λ t. IsTrue (is_reached s t)) (root_reached s) (λ from to reached there. next_reached s from to reached (links_in s from to there)) t)
      (λ reached. (all_reached s Both first next t reached).1)
    where
      Both : Target → Type 0
      Both t = IsTrue (is_reached s t) × IsTrue (is_reached (kept s) t)

      first : (t : Target) → IsRoot s.pins s.devices t → Both t
      first t root = (root_reached s t root, root_reached (kept s) t root)

      next : (from to : Target) → Both from → Contains (links_of s) (from, to) → Both to
      next from to both there = (next_reached s from to both.0 there, next_reached (kept s) from to both.1 (links_out s from to (stays from both.0) there))

  settled_reaches : (s : State) → IsSettled s → ListsLive maps progs s → ReachedStays s
  settled_reaches s h lists t reached = live_stays s lists t (h.only t reached)

  pub settled_kept : (s : State) → IsSettled s → ListsLive maps progs s → IsSettled (kept s)
  settled_kept s h lists = record {
    maps = λ id m there live. same_reached s (settled_reaches s h lists) (Map id) ∙ h.maps id m (found_kept (is_among maps id) (map.get s.maps id) m (sym (get-kept maps s.maps id) ∙ there)) live;
    progs = λ id p there live. same_reached s (settled_reaches s h lists) (Prog id) ∙ h.progs id p (found_kept (is_among progs id) (map.get s.progs id) p (sym (get-kept progs s.progs id) ∙ there)) live;
    only = λ t reached. same_live s lists t ∙ h.only t (sym (same_reached s (settled_reaches s h lists) t) ∙ reached);
  }
