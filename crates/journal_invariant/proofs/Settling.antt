-- What settling leaves, and a change as a state that is settled.
use Rattle.std.proofs.Common.{◌≡◌, inl, inr, ℕ, zero, suc, Bool, true, false, cond, not, ◌&&◌, IsTrue, Any, List, [], ◌∷◌, ◌++◌, map as each, Option, Some, None, Ok, Err, refl, sym, ◌∙◌, ap, arith}
use Rattle.std.specs.Prelude.{option_map}
use Rattle.std.specs.List.{flat_map}
use Rattle.std.specs.Ordering.{nat_cmp}
use Rattle.std.specs.Cmp.Lexicographic.{slice_cmp}
use Rattle.std.specs.FinMap as map
use Rattle.bt_roots.specs.declared.target.Target.{Target}
use Rattle.bt_roots.specs.declared.target.Target.TheVariants.{Map, Prog}
use Rattle.bt_roots.specs.declared.device.Device.{Device}
use Rattle.bt_roots.specs.Reachable.{IsRoot}
use Rattle.bt_roots.specs.Live.{is_live}
use Rattle.bt_roots.specs.View.{free_device}
use Rattle.host_state.specs.State.{HostMap, HostProg, State}
use Rattle.host_state.specs.World.{fresh_state}
use Rattle.host_state.specs.Settled.{links_of_map, links_of_prog, links_of, is_reached, settle, is_live_map, is_live_prog, is_live_in, IsSettled}
use Rattle.host_state.specs.Act.{Outcome, if_live, live_map}
use Rattle.host_state.proofs.ByIdLemmas.{at_put, get-mapped, entries-mapped, same_some}
use Rattle.host_state.proofs.LinkedLemmas.{all_reached}
use Rattle.host_state.proofs.RetireLemmas.{live_settled}
use Rattle.journal_model.specs.Rebase.{is_retired_map, is_retired_prog}

-- ---- what settling leaves
pub both_true : (a b : Bool) → a && b ≡ true → (a ≡ true) × (b ≡ true)
both_true true true e = (refl, refl)
both_true true false e = cc
both_true false b e = cc

abbrev map_after : State → ℕ → HostMap → HostMap
map_after s id m = record m { live = m.live && is_reached s (Map id) }

abbrev prog_after : State → ℕ → HostProg → HostProg
prog_after s id p = record p { live = p.live && is_reached s (Prog id) }

each_map : (s : State) (es : List (ℕ × HostMap)) → flat_map links_of_map (each (λ e. (e.0, map_after s e.0 e.1)) es) ≡ flat_map links_of_map es
each_map s [] = refl
each_map s (e ∷ es) = ap (λ ls. links_of_map e ++ ls) (each_map s es)

each_prog : (s : State) (es : List (ℕ × HostProg)) → flat_map links_of_prog (each (λ e. (e.0, prog_after s e.0 e.1)) es) ≡ flat_map links_of_prog es
each_prog s [] = refl
each_prog s (e ∷ es) = ap (λ ls. links_of_prog e ++ ls) (each_prog s es)

-- links do not depend on what is live
settled_links : (s : State) → links_of (settle s) ≡ links_of s
unfolding settle
settled_links s = λ i.
    (ap (flat_map links_of_prog) (entries-mapped (prog_after s) s.progs) ∙ each_prog s (map.entries s.progs)) i
    ++ (ap (flat_map links_of_map) (entries-mapped (map_after s) s.maps) ∙ each_map s (map.entries s.maps)) i

settled_reaches : (s : State) (t : Target) → is_reached (settle s) t ≡ is_reached s t
unfolding settle
settled_reaches s t = ap (λ ls. is_live s.pins s.devices ls t) (settled_links s)

-- if all that is reached is live, what is settled is
pub is_settled : (s : State) → ((t : Target) → IsTrue (is_reached s t) → IsTrue (is_live_in s t)) → IsSettled (settle s)
is_settled s only = record {
  maps = λ id m there live. settled_reaches s (Map id) ∙ (both_true (is_live_in s (Map id)) (is_reached s (Map id)) (sym (live_settled s (Map id)) ∙ ap is_live_map there ∙ live)).1;
  progs = λ id p there live. settled_reaches s (Prog id) ∙ (both_true (is_live_in s (Prog id)) (is_reached s (Prog id)) (sym (live_settled s (Prog id)) ∙ ap is_live_prog there ∙ live)).1;
  only = λ t reached.
      let was : is_reached s t ≡ true = sym (settled_reaches s t) ∙ reached in
      live_settled s t ∙ ap (λ b. b && is_reached s t) (only t was) ∙ was;
}

pub retired_map : (s : State) (id : ℕ) → is_retired_map (map.get s.maps id) ≡ true → is_retired_map (map.get (settle s).maps id) ≡ true
unfolding settle
retired_map s id h = ap is_retired_map (get-mapped (map_after s) s.maps id) ∙ by (map.get s.maps id) h
  where
    still : (live reached : Bool) → not live ≡ true → not (live && reached) ≡ true
    still true reached e = cc
    still false reached e = refl

    by : (o : Option HostMap) → is_retired_map o ≡ true → is_retired_map (option_map (map_after s id) o) ≡ true
    by None e = cc
    by (Some m) e = still m.live (is_reached s (Map id)) e

pub retired_prog : (s : State) (id : ℕ) → is_retired_prog (map.get s.progs id) ≡ true → is_retired_prog (map.get (settle s).progs id) ≡ true
unfolding settle
retired_prog s id h = ap is_retired_prog (get-mapped (prog_after s) s.progs id) ∙ by (map.get s.progs id) h
  where
    still : (live reached : Bool) → not live ≡ true → not (live && reached) ≡ true
    still true reached e = cc
    still false reached e = refl

    by : (o : Option HostProg) → is_retired_prog o ≡ true → is_retired_prog (option_map (prog_after s id) o) ≡ true
    by None e = cc
    by (Some p) e = still p.live (is_reached s (Prog id)) e

-- ---- a change
-- a state comes to another, which is settled then; what is reached is live, and what had retired is retired
pub record IsMove (s t : State) : Type 0 where
  pub middle : State
  pub settles : t ≡ settle middle
  pub only : (x : Target) → IsTrue (is_reached middle x) → IsTrue (is_live_in middle x)
  pub maps : (id : ℕ) → is_retired_map (map.get s.maps id) ≡ true → is_retired_map (map.get middle.maps id) ≡ true
  pub progs : (id : ℕ) → is_retired_prog (map.get s.progs id) ≡ true → is_retired_prog (map.get middle.progs id) ≡ true

abbrev pub state_or : State → Outcome → State
state_or s (Ok done) = done.0
state_or s (Err errno) = s

-- a live map of the id
pub record IsLiveAt (s : State) (id : ℕ) (m : HostMap) : Type 0 where
  pub there : map.get s.maps id ≡ Some m
  pub live : m.live ≡ true

pub live_at : (s : State) (id : ℕ) (m : HostMap) → live_map s id ≡ Some m → IsLiveAt s id m
live_at s id m e = by (map.get s.maps id) refl e
  where
    by_live : (n : HostMap) → map.get s.maps id ≡ Some n → (live : Bool) → n.live ≡ live → cond live (Some n) None ≡ Some m → IsLiveAt s id m
    by_live n is true live e = let same : n ≡ m = same_some e in record { there = is ∙ e; live = ap (λ (x : HostMap). x.live) (sym same) ∙ live }
    by_live n is false live e = cc

    by : (o : Option HostMap) → map.get s.maps id ≡ o → if_live o ≡ Some m → IsLiveAt s id m
    by None is e = cc
    by (Some n) is e = by_live n is n.live refl e

-- what is live in a state
abbrev pub Live : State → Target → Type 0
Live s t = IsTrue (is_live_in s t)

-- an id that names another object is found if it is not retired
pub retired_else : (s : State) (id : ℕ) (n : HostMap) → is_retired_map (map.get s.maps id) ≡ false → (q : ℕ) → is_retired_map (map.get s.maps q) ≡ true → is_retired_map (map.get (map.insert s.maps id n) q) ≡ true
retired_else s id n none q r = at_put s.maps id q (Some n) (λ o. is_retired_map o ≡ true) (λ is. cc (sym (ap (λ k. is_retired_map (map.get s.maps k)) is ∙ none) ∙ r)) r

-- ---- a new host
none_attached : (names : List (List ℕ)) (id : ℕ) → Any (λ (d : Device). d.prog ≡ Some id) (each free_device names) → ⊥
none_attached [] id (k, device, lt, is, at) = omega (arith, lt)
none_attached (name ∷ names) id (zero, device, lt, is, at) = let none : device.prog ≡ None = ap (λ (d : Device). d.prog) (sym is) in cc
none_attached (name ∷ names) id (suc k, device, lt, is, at) = none_attached names id (k, device, omega (arith, lt), is, at)

pub fresh_settled : (names : List (List ℕ)) → IsSettled (fresh_state names)
fresh_settled names = record {
  maps = λ id m there. cc (sym (map.get-empty nat_cmp id) ∙ there);
  progs = λ id p there. cc (sym (map.get-empty nat_cmp id) ∙ there);
  only = λ t reached. absurd (all_reached (fresh_state names) (λ x. ⊥) first (λ from to none there. none) t reached);
}
  where
    first : (t : Target) → IsRoot map.empty (each free_device names) t → ⊥
    first t (inl p) = cc (sym (map.get-empty (slice_cmp nat_cmp) p.0) ∙ p.1)
    first t (inr (id, is, any)) = none_attached names id any
