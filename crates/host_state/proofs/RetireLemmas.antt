-- What retires at the end of a change, and how it comes back.
use Rattle.std.proofs.Common.{◌≡◌, ℕ, Bool, true, false, ◌&&◌, ◌||◌, not, IsTrue, List, [], ◌∷◌, ◌++◌, map as each, Option, Some, None, refl, sym, subst, ap, ◌∙◌}
use Rattle.std.specs.Prelude.{if◌then◌else◌}
use Rattle.std.specs.Option.{option_map}
use Rattle.std.specs.List.{flat_map}
use Rattle.std.specs.List.Sorted.{IsStrictlySortedBy}
use Rattle.std.specs.FinMap as map
use Rattle.bt_roots.specs.declared.target.Target.{Target}
use Rattle.bt_roots.specs.declared.target.Target.TheVariants.{Map, Prog}
use Rattle.bt_roots.specs.Live.{is_live}
use Rattle.bt_roots.specs.Reachable.{IsAscending}
use Rattle.host_state.specs.State.{HostMap, HostProg, State}
use Rattle.host_state.specs.Settled.{links_of_map, links_of_prog, links_of, is_reached, settle, IsSettled, is_live_map, is_live_prog, is_live_in, is_listed, revived, ListsRetired}
use Rattle.host_state.proofs.ByIdLemmas.{get-mapped, entries-mapped, mapped_same, mapped_alike, mapped-mapped, same_some, at_put}

-- ---- revived
abbrev pub map_revived : List Target → Bool → ℕ → HostMap → HostMap
map_revived targets live id m = record m { live = if is_listed targets (Map id) then live else m.live }

abbrev pub prog_revived : List Target → Bool → ℕ → HostProg → HostProg
prog_revived targets live id p = record p { live = if is_listed targets (Prog id) then live else p.live }

pub get-revived : (s : State) (targets : List Target) (live : Bool) (id : ℕ) → map.get (revived s targets live).maps id ≡ option_map (map_revived targets live id) (map.get s.maps id)
unfolding revived
get-revived s targets live id = get-mapped (map_revived targets live) s.maps id

-- nothing is listed
pub revived_none : (s : State) (live : Bool) → revived s [] live ≡ s
unfolding revived
revived_none s live = λ i. record s {
  maps = mapped_same (map_revived [] live) s.maps (λ id m there. refl) i;
  progs = mapped_same (prog_revived [] live) s.progs (λ id p there. refl) i;
}

-- what is retired and then revived is as it was, if it was live
back_again : (listed was : Bool) → (IsTrue listed → IsTrue was) → (if listed then true else (if listed then false else was)) ≡ was
back_again true was h = sym (h refl)
back_again false was h = refl

pub revived_twice : (s : State) (targets : List Target) → ((t : Target) → IsTrue (is_listed targets t) → IsTrue (is_live_in s t)) → revived (revived s targets false) targets true ≡ s
unfolding revived
revived_twice s targets were = λ i. record s {
  maps = (
      mapped-mapped (map_revived targets true) (map_revived targets false) s.maps
      ∙ mapped_same (λ id m. map_revived targets true id (map_revived targets false id m)) s.maps
      (λ id m there j. record m { live = back_again (is_listed targets (Map id)) m.live (λ listed. sym (ap is_live_map there) ∙ were (Map id) listed) j })
      ) i;
  progs = (
      mapped-mapped (prog_revived targets true) (prog_revived targets false) s.progs
      ∙ mapped_same (λ id p. prog_revived targets true id (prog_revived targets false id p)) s.progs
      (λ id p there j. record p { live = back_again (is_listed targets (Prog id)) p.live (λ listed. sym (ap is_live_prog there) ∙ were (Prog id) listed) j })
      ) i;
}

-- ---- settling
retires : (live reached listed : Bool) → listed ≡ live && not reached → live && reached ≡ (if listed then false else live)
retires true true true e = cc
retires true true false e = refl
retires true false true e = refl
retires true false false e = cc
retires false reached true e = cc
retires false reached false e = refl

-- settling retires what is listed
pub settle_revives : (s : State) (targets : List Target) → ListsRetired s targets → settle s ≡ revived s targets false
unfolding settle revived
settle_revives s targets lists = λ i. record s {
  maps = mapped_alike (λ id (m : HostMap). record m { live = m.live && is_reached s (Map id) }) (map_revived targets false) s.maps
      (λ id m there j. record m { live = retires m.live (is_reached s (Map id)) (is_listed targets (Map id)) (lists (Map id) ∙ ap (λ o. is_live_map o && not (is_reached s (Map id))) there) j }) i;
  progs = mapped_alike (λ id (p : HostProg). record p { live = p.live && is_reached s (Prog id) }) (prog_revived targets false) s.progs
      (λ id p there j. record p { live = retires p.live (is_reached s (Prog id)) (is_listed targets (Prog id)) (lists (Prog id) ∙ ap (λ o. is_live_prog o && not (is_reached s (Prog id))) there) j }) i;
}

-- links do not depend on what is live
each_map : (targets : List Target) (live : Bool) (es : List (ℕ × HostMap)) → flat_map links_of_map (each (λ e. (e.0, map_revived targets live e.0 e.1)) es) ≡ flat_map links_of_map es
each_map targets live [] = refl
each_map targets live (e ∷ es) = ap (λ ls. links_of_map e ++ ls) (each_map targets live es)

each_prog : (targets : List Target) (live : Bool) (es : List (ℕ × HostProg)) → flat_map links_of_prog (each (λ e. (e.0, prog_revived targets live e.0 e.1)) es) ≡ flat_map links_of_prog es
each_prog targets live [] = refl
each_prog targets live (e ∷ es) = ap (λ ls. links_of_prog e ++ ls) (each_prog targets live es)

revived_links : (s : State) (targets : List Target) (live : Bool) → links_of (revived s targets live) ≡ links_of s
unfolding revived
revived_links s targets live = λ i.
    (ap (flat_map links_of_prog) (entries-mapped (prog_revived targets live) s.progs) ∙ each_prog targets live (map.entries s.progs)) i
    ++ (ap (flat_map links_of_map) (entries-mapped (map_revived targets live) s.maps) ∙ each_map targets live (map.entries s.maps)) i

pub revived_reaches : (s : State) (targets : List Target) (live : Bool) (t : Target) → is_reached (revived s targets live) t ≡ is_reached s t
unfolding revived
revived_reaches s targets live t = ap (λ ls. is_live s.pins s.devices ls t) (revived_links s targets live)

-- what stays live is reached
stays : (live reached listed : Bool) → listed ≡ live && not reached → IsTrue (if listed then false else live) → IsTrue reached
stays true true listed e h = refl
stays true false true e h = cc
stays true false false e h = cc
stays false reached true e h = cc
stays false reached false e h = cc

-- what is live and reached stays so
still : (live reached listed : Bool) → listed ≡ live && not reached → live ≡ true → reached ≡ true → (if listed then false else live) ≡ true
still true true true e l r = cc
still true true false e l r = refl
still true false listed e l r = cc
still false reached listed e l r = cc

pub revived_settled : (s : State) (targets : List Target) → ListsRetired s targets → ((t : Target) → IsTrue (is_reached s t) → IsTrue (is_live_in s t)) → IsSettled (revived s targets false)
unfolding revived
revived_settled s targets lists only = record {
  maps = λ id n there live. revived_reaches s targets false (Map id) ∙ of_map id n live (map.get s.maps id) refl (sym (get-mapped (map_revived targets false) s.maps id) ∙ there);
  progs = λ id n there live. revived_reaches s targets false (Prog id) ∙ of_prog id n live (map.get s.progs id) refl (sym (get-mapped (prog_revived targets false) s.progs id) ∙ there);
  only = λ t r. let reached = sym (revived_reaches s targets false t) ∙ r in live_still t (only t reached) reached;
}
  where
    live_still : (t : Target) → IsTrue (is_live_in s t) → IsTrue (is_reached s t) → IsTrue (is_live_in (revived s targets false) t)
    live_still (Map id) live reached = ap is_live_map (get-mapped (map_revived targets false) s.maps id) ∙ by (map.get s.maps id) live (lists (Map id))
      where
        by : (o : Option HostMap) → is_live_map o ≡ true → is_listed targets (Map id) ≡ is_live_map o && not (is_reached s (Map id)) → is_live_map (option_map (map_revived targets false id) o) ≡ true
        by None l e = cc
        by (Some m) l e = still m.live (is_reached s (Map id)) (is_listed targets (Map id)) e l reached
    live_still (Prog id) live reached = ap is_live_prog (get-mapped (prog_revived targets false) s.progs id) ∙ by (map.get s.progs id) live (lists (Prog id))
      where
        by : (o : Option HostProg) → is_live_prog o ≡ true → is_listed targets (Prog id) ≡ is_live_prog o && not (is_reached s (Prog id)) → is_live_prog (option_map (prog_revived targets false id) o) ≡ true
        by None l e = cc
        by (Some p) l e = still p.live (is_reached s (Prog id)) (is_listed targets (Prog id)) e l reached

    of_map : (id : ℕ) (n : HostMap) → IsTrue n.live → (o : Option HostMap) → map.get s.maps id ≡ o → option_map (map_revived targets false id) o ≡ Some n → IsTrue (is_reached s (Map id))
    of_map id n live None is e = cc
    of_map id n live (Some m) is e =
        stays m.live (is_reached s (Map id)) (is_listed targets (Map id)) (lists (Map id) ∙ ap (λ o. is_live_map o && not (is_reached s (Map id))) is) (ap (λ (x : HostMap). x.live) (same_some e) ∙ live)

    of_prog : (id : ℕ) (n : HostProg) → IsTrue n.live → (o : Option HostProg) → map.get s.progs id ≡ o → option_map (prog_revived targets false id) o ≡ Some n → IsTrue (is_reached s (Prog id))
    of_prog id n live None is e = cc
    of_prog id n live (Some p) is e =
        stays p.live (is_reached s (Prog id)) (is_listed targets (Prog id)) (lists (Prog id) ∙ ap (λ o. is_live_prog o && not (is_reached s (Prog id))) is) (ap (λ (x : HostProg). x.live) (same_some e) ∙ live)

-- a settled state retires nothing
kept : (live reached : Bool) → (IsTrue live → IsTrue reached) → false ≡ live && not reached
kept true reached h = sym (ap not (h refl))
kept false reached h = refl

pub settled_lists : (s : State) → IsSettled s → ListsRetired s []
settled_lists s h (Map id) = of_map (map.get s.maps id) refl
  where
    of_map : (o : Option HostMap) → map.get s.maps id ≡ o → false ≡ is_live_map o && not (is_reached s (Map id))
    of_map None is = refl
    of_map (Some m) is = kept m.live (is_reached s (Map id)) (h.maps id m is)
settled_lists s h (Prog id) = of_prog (map.get s.progs id) refl
  where
    of_prog : (o : Option HostProg) → map.get s.progs id ≡ o → false ≡ is_live_prog o && not (is_reached s (Prog id))
    of_prog None is = refl
    of_prog (Some p) is = kept p.live (is_reached s (Prog id)) (h.progs id p is)

-- ---- an object that is live in one of two states
pub first_lives : (a b : Bool) → a ≡ true → a || b ≡ true
first_lives true b e = refl
first_lives false b e = cc

pub second_lives : (a b : Bool) → b ≡ true → a || b ≡ true
second_lives true b e = refl
second_lives false b e = e

-- ---- what has retired
pub live_settled : (s : State) (t : Target) → is_live_in (settle s) t ≡ is_live_in s t && is_reached s t
unfolding settle
live_settled s (Map id) = ap is_live_map (get-mapped (λ id (m : HostMap). record m { live = m.live && is_reached s (Map id) }) s.maps id) ∙ by (map.get s.maps id)
  where
    by : (o : Option HostMap) → is_live_map (option_map (λ (m : HostMap). record m { live = m.live && is_reached s (Map id) }) o) ≡ is_live_map o && is_reached s (Map id)
    by None = refl
    by (Some m) = refl
live_settled s (Prog id) = ap is_live_prog (get-mapped (λ id (p : HostProg). record p { live = p.live && is_reached s (Prog id) }) s.progs id) ∙ by (map.get s.progs id)
  where
    by : (o : Option HostProg) → is_live_prog (option_map (λ (p : HostProg). record p { live = p.live && is_reached s (Prog id) }) o) ≡ is_live_prog o && is_reached s (Prog id)
    by None = refl
    by (Some p) = refl

pub no_longer : (live reached : Bool) → live && not reached ≡ live && not (live && reached)
no_longer true reached = refl
no_longer false reached = refl

-- a map that takes the place of another is live if that was
pub replaced_live : (s : State) (id : ℕ) (m n : HostMap) → map.get s.maps id ≡ Some m → n.live ≡ m.live → (t : Target) → IsTrue (is_live_in s t) → IsTrue (is_live_in (record s { maps = map.insert s.maps id n }) t)
replaced_live s id m n there same (Map q) live = at_put s.maps id q (Some n) (λ o. is_live_map o ≡ true) (λ e. same ∙ sym (ap is_live_map there) ∙ sym (ap (λ k. is_live_map (map.get s.maps k)) e) ∙ live) live
replaced_live s id m n there same (Prog q) live = live

-- ---- in ascending order
pub no_target : IsAscending []
unfolding IsStrictlySortedBy
no_target = tt

pub none_ascend : (targets : List Target) → targets ≡ [] → IsAscending targets
none_ascend targets none = subst IsAscending (sym none) no_target
