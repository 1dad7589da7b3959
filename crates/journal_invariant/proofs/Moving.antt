-- A change that is done leaves a settled state, in which what had retired is retired.
use Rattle.std.proofs.Common.{◌≡◌, ◌⊎◌, inl, inr, ℕ, zero, suc, Bool, true, false, cond, not, ◌&&◌, Contains, List, [], ◌∷◌, Option, Some, None, is_some, Result, Ok, Err, refl, sym, ◌∙◌, ap, subst, arith}
use Rattle.std.specs.List.{list_all}
use Rattle.std.specs.Ordering.{nat_cmp, eq_by_cmp}
use Rattle.std.specs.Cmp.Lexicographic.{slice_cmp, nat_list_cmp_total}
use Rattle.std.specs.FinMap as map
use Rattle.host_words.specs.Spelling.{is_name, is_path}
use Rattle.bt_mapkind.specs.declared.attr.MapAttr.{MapAttr}
use Rattle.bt_mapkind.specs.declared.errno.Errno.{Errno}
use Rattle.bt_mapkind.specs.declared.errno.Errno.TheVariants.{EINVAL, EPERM}
use Rattle.bt_mapkind.specs.declared.request.MapOp.{MapOp}
use Rattle.bt_mapkind.specs.declared.request.MapOp.TheVariants.{Update, Delete, Push, Pop, Store, Atomic, SetLink}
use Rattle.bt_mapkind.specs.Attributes.{good}
use Rattle.bt_mapkind.specs.Step.{Step, map_step, is_flag}
use Rattle.bt_roots.specs.declared.target.Target.{Target}
use Rattle.bt_roots.specs.declared.target.Target.TheVariants.{Map, Prog}
use Rattle.bt_roots.specs.Reachable.{IsRoot}
use Rattle.bt_roots.specs.View.{position_of}
use Rattle.host_state.specs.declared.change.Change.{Change}
use Rattle.host_state.specs.declared.change.Change.TheVariants.{Create, Operate, Freeze, Link, Load, Pin, Unpin, Attach, Detach}
use Rattle.host_state.specs.declared.change.Origin.{Origin}
use Rattle.host_state.specs.declared.change.Origin.TheVariants.{Console, Prog as ByProg}
use Rattle.host_state.specs.declared.reply.Reply.{Reply}
use Rattle.host_state.specs.State.{HostMap, HostProg, State}
use Rattle.host_state.specs.Settled.{ids_in, named_in, maps_named, links_of, settle, is_live_map, is_live_prog, is_live_in, IsSettled}
use Rattle.bt_mapkind.specs.Inner.{holds_ids, form_fault, map_fault}
use Rattle.host_state.proofs.Tests.{prog_fault, operated_at, named_fault, linked_at, frozen_at, template_of, has_maps, unless_frozen, with_prog, new_map}
use Rattle.host_state.specs.Act.{act, if_live, live_map, attr_if_live, is_console, bars, flag_of, operated_to, unless, with_frozen, new_prog}
use Rattle.host_state.proofs.ByIdLemmas.{at_put, get-put_same, same_some}
use Rattle.host_state.proofs.LinkedLemmas.{from_each, from_links, to_links_map, to_links_prog, IsMapLink, IsProgLink, all_reached, next_live, root_live}
use Rattle.host_state.proofs.SettleLemmas.{settled_created, fresh_names_none}
use Rattle.host_state.proofs.Lasting.{created_by, created_path, load_by}
use Rattle.journal_model.specs.Rebase.{is_retired_map, is_retired_prog}
use Rattle.journal_invariant.proofs.Ids.{Puts, ids_after}
use Rattle.journal_invariant.proofs.Settling.{both_true, IsMove, state_or, IsLiveAt, live_at, Live, retired_else, is_settled, retired_map, retired_prog}
use Rattle.journal_invariant.proofs.Rooting.{pin_moves, unpin_moves, attach_moves, detach_moves}

module _ (s : State) (h : IsSettled s) where
  -- ---- a map that takes the place of a live one
  module _ (id : ℕ) (m n : HostMap) (at : IsLiveAt s id m) (live : n.live ≡ true) (kind : n.attr.kind ≡ m.attr.kind)
      (named : (x : ℕ) → Contains (ids_in n.contents) x → Contains (ids_in m.contents) x ⊎ Live s (named_in m.attr.kind x)) where
    abbrev replaced : State
    replaced = record s { maps = map.insert s.maps id n }

    same_live : (t : Target) → is_live_in replaced t ≡ is_live_in s t
    same_live (Map q) = at_put s.maps id q (Some n) (λ o. is_live_map o ≡ is_live_map (map.get s.maps q)) (λ is. live ∙ sym (ap (λ k. is_live_map (map.get s.maps k)) is ∙ ap is_live_map at.there ∙ at.live)) refl
    same_live (Prog q) = refl

    here : Live s (Map id)
    here = ap is_live_map at.there ∙ at.live

    of_named : (to : Target) (x : ℕ) → to ≡ named_in m.attr.kind x → Contains (ids_in m.contents) x ⊎ Live s (named_in m.attr.kind x) → Live s to
    of_named to x is (inl has) = subst (Live s) (sym is) (next_live s h (Map id) (named_in m.attr.kind x) here (to_links_map s id m x at.there has))
    of_named to x is (inr new) = subst (Live s) (sym is) new

    of_map : (from to : Target) → Live s from → (q : ℕ) (host : HostMap) (x : ℕ) → map.get (map.insert s.maps id n) q ≡ Some host → Contains (ids_in host.contents) x → from ≡ Map q → to ≡ named_in host.attr.kind x → Live s to
    of_map from to live q host x =
        at_put s.maps id q (Some n) (λ o. o ≡ Some host → Contains (ids_in host.contents) x → from ≡ Map q → to ≡ named_in host.attr.kind x → Live s to)
        (λ at found has source is.
        let same : n ≡ host = same_some found in
        of_named to x (is ∙ ap (λ (y : HostMap). named_in y.attr.kind x) (sym same) ∙ ap (λ k. named_in k x) kind) (named x (subst (λ (y : HostMap). Contains (ids_in y.contents) x) (sym same) has)))
        (λ found has source is. subst (Live s) (sym is) (next_live s h (Map q) (named_in host.attr.kind x) (subst (Live s) source live) (to_links_map s q host x found has)))

    next : (from to : Target) → Live s from → Contains (links_of replaced) (from, to) → Live s to
    next from to live there = by (from_links replaced (from, to) there)
      where
        by : IsProgLink replaced (from, to) ⊎ IsMapLink replaced (from, to) → Live s to
        by (inl l) =
            subst (Live s) (sym (ap (λ (x : Target × Target). x.1) l.is))
            (next_live s h (Prog l.id) (Map l.named) (subst (Live s) (ap (λ (x : Target × Target). x.0) l.is) live) (to_links_prog s l.id l.prog l.named l.there l.has))
        by (inr l) = of_map from to live l.id l.host l.named l.there l.has (ap (λ (x : Target × Target). x.0) l.is) (ap (λ (x : Target × Target). x.1) l.is)

    replaced_moves : (t : State) → t ≡ settle replaced → IsMove s t
    replaced_moves t is = record {
      middle = replaced;
      settles = is;
      only = λ x reached. same_live x ∙ all_reached replaced (Live s) (root_live s h) next x reached;
      maps = retired_else s id n (ap is_retired_map at.there ∙ ap not at.live);
      progs = λ q r. r;
    }

  -- ---- an operation
  -- no operation puts an id
  puts_none : (origin : Origin) (holds : Bool) (op : MapOp) (x : ℕ) → bars origin holds op ≡ false → Puts op x → ⊥
  puts_none Console holds (SetLink key id flag) x e put = cc
  puts_none (ByProg prog) true (SetLink key id flag) x e put = cc
  puts_none (ByProg prog) false (SetLink key id flag) x e put = cc
  puts_none origin holds (Update key value flag) x e put = put
  puts_none origin holds (Delete key) x e put = put
  puts_none origin holds (Push value flag) x e put = put
  puts_none origin holds Pop x e put = put
  puts_none origin holds (Store key offset bytes) x e put = put
  puts_none origin holds (Atomic key offset size op operand) x e put = put

  step_moves : (t : State) (reply : Reply) (id : ℕ) (m : HostMap) (op : MapOp) → IsLiveAt s id m → ((x : ℕ) → Puts op x → Live s (named_in m.attr.kind x)) → (step : Step) → map_step m.attr m.contents op ≡ step
      → operated_to s id m op step ≡ Ok (t, reply) → IsMove s t
  step_moves t reply id m op at puts (Err errno) is e = cc
  step_moves t reply id m op at puts (Ok changed) is e =
      replaced_moves id m (record m { contents = changed.contents }) at at.live refl (λ x has. by x (ids_after m.attr m.contents op changed is x has)) t (sym (ap (state_or s) e))
    where
      by : (x : ℕ) → Contains (ids_in m.contents) x ⊎ Puts op x → Contains (ids_in m.contents) x ⊎ Live s (named_in m.attr.kind x)
      by x (inl was) = inl was
      by x (inr put) = inr (puts x put)

  operate_moves : (t : State) (reply : Reply) (origin : Origin) (id : ℕ) (op : MapOp) → operated_at s id (live_map s id) origin op ≡ Ok (t, reply) → IsMove s t
  operate_moves t reply origin id op e = by_map (live_map s id) refl e
    where
      by_tests : (m : HostMap) → IsLiveAt s id m → (a b holds : Bool) → bars origin (holds_ids m.attr.kind) op ≡ holds
          → cond a (Err EINVAL) (cond b (Err EPERM) (cond holds (Err EINVAL) (operated_to s id m op (map_step m.attr m.contents op)))) ≡ Ok (t, reply) → IsMove s t
      by_tests m at true b holds is e = cc
      by_tests m at false true holds is e = cc
      by_tests m at false false true is e = cc
      by_tests m at false false false is e = step_moves t reply id m op at (λ x put. absurd (puts_none origin (holds_ids m.attr.kind) op x is put)) (map_step m.attr m.contents op) refl e

      by_map : (o : Option HostMap) → live_map s id ≡ o → operated_at s id o origin op ≡ Ok (t, reply) → IsMove s t
      by_map None is e = cc
      by_map (Some m) is e = by_tests m (live_at s id m is) (not (is_flag (flag_of op))) (is_console origin && m.frozen) (bars origin (holds_ids m.attr.kind) op) refl e

  -- ---- a link
  map_live : (id : ℕ) (template : Option MapAttr) (o : Option HostMap) → map.get s.maps id ≡ o → map_fault template (attr_if_live (if_live o)) ≡ None → is_live_map o ≡ true
  map_live id template None is e = cc
  map_live id template (Some m) is e = by m.live refl e
    where
      by : (live : Bool) → m.live ≡ live → map_fault template (attr_if_live (cond live (Some m) None)) ≡ None → m.live ≡ true
      by true live e = live
      by false live e = cc

  fault_free : (template : Option MapAttr) (x : Target) → named_fault s template x ≡ None → Live s x
  fault_free template (Map id) e = map_live id template (map.get s.maps id) refl e
  fault_free template (Prog id) e = by (is_live_in s (Prog id)) e
    where
      by : (b : Bool) → prog_fault b ≡ None → b ≡ true
      by true e = refl
      by false e = cc

  link_moves : (t : State) (reply : Reply) (id : ℕ) (key : List ℕ) (named flag : ℕ) → linked_at s id (live_map s id) key named flag ≡ Ok (t, reply) → IsMove s t
  link_moves t reply id key named flag e = by_map (live_map s id) refl e
    where
      by_faults : (m : HostMap) → IsLiveAt s id m → (x y : Option Errno) → named_fault s m.template (named_in m.attr.kind named) ≡ y
          → unless x (unless y (operated_to s id m (SetLink key named flag) (map_step m.attr m.contents (SetLink key named flag)))) ≡ Ok (t, reply) → IsMove s t
      by_faults m at (Some errno) y is e = cc
      by_faults m at None (Some errno) is e = cc
      by_faults m at None None is e =
          step_moves t reply id m (SetLink key named flag) at (λ x put. subst (λ k. Live s (named_in m.attr.kind k)) (sym put) (fault_free m.template (named_in m.attr.kind named) is))
          (map_step m.attr m.contents (SetLink key named flag)) refl e

      by_tests : (m : HostMap) → IsLiveAt s id m → (a b : Bool)
          → cond a (Err EINVAL) (cond b (Err EPERM) (unless (form_fault m.attr key flag) (unless (named_fault s m.template (named_in m.attr.kind named)) (operated_to s id m (SetLink key named flag) (map_step m.attr m.contents (SetLink key named flag))))))
          ≡ Ok (t, reply) → IsMove s t
      by_tests m at true b e = cc
      by_tests m at false true e = cc
      by_tests m at false false e = by_faults m at (form_fault m.attr key flag) (named_fault s m.template (named_in m.attr.kind named)) refl e

      by_map : (o : Option HostMap) → live_map s id ≡ o → linked_at s id o key named flag ≡ Ok (t, reply) → IsMove s t
      by_map None is e = cc
      by_map (Some m) is e = by_tests m (live_at s id m is) (not (is_flag flag)) m.frozen e

  -- ---- a freeze
  freeze_moves : (t : State) (reply : Reply) (id : ℕ) → frozen_at s id (live_map s id) ≡ Ok (t, reply) → IsMove s t
  freeze_moves t reply id e = by_map (live_map s id) refl e
    where
      by_test : (m : HostMap) → IsLiveAt s id m → (b : Bool) → unless_frozen b (settle (with_frozen s id m true)) ≡ Ok (t, reply) → IsMove s t
      by_test m at true e = cc
      by_test m at false e = replaced_moves id m (record m { frozen = true }) at at.live refl (λ x has. inl has) t (sym (ap (state_or s) e))

      by_map : (o : Option HostMap) → live_map s id ≡ o → frozen_at s id o ≡ Ok (t, reply) → IsMove s t
      by_map None is e = cc
      by_map (Some m) is e = by_test m (live_at s id m is) m.frozen e

  -- ---- a new map
  none_of : {X : Type 0} (o : Option X) → is_some o ≡ false → o ≡ None
  none_of None e = refl
  none_of (Some x) e = cc

  create_moves : (t : State) (reply : Reply) (id : ℕ) (attr : MapAttr) (charge : ℕ) (name path : List ℕ) (template : Option ℕ) (there fine : Bool) (found : Result (Option MapAttr) Errno)
      → map.contains_key s.maps id ≡ there → created_by s id attr charge name path there fine found ≡ Ok (t, reply) → IsMove s t
  create_moves t reply id attr charge name path template true fine found is e = cc
  create_moves t reply id attr charge name path template false false found is e = cc
  create_moves t reply id attr charge name path template false true (Err errno) is e = cc
  create_moves t reply id attr charge name path template false true (Ok agreed) is e = by_tests (not (is_path path)) (map.contains_key s.pins path) refl e
    where
      by_tests : (a b : Bool) → map.contains_key s.pins path ≡ b → created_path s id (new_map attr charge name agreed) path a b ≡ Ok (t, reply) → IsMove s t
      by_tests true b free e = cc
      by_tests false true free e = cc
      by_tests false false free e =
          let m : HostMap = new_map attr charge name agreed in
          let none : map.get s.maps id ≡ None = none_of (map.get s.maps id) is in
          let after : IsSettled (record s { maps = map.insert s.maps id m; pins = map.insert s.pins path (Map id) }) =
          settled_created s id m path none (none_of (map.get s.pins path) free) (fresh_names_none attr) refl h in
          record {
            middle = record s { maps = map.insert s.maps id m; pins = map.insert s.pins path (Map id) };
            settles = sym (ap (state_or s) e);
            only = after.only;
            maps = retired_else s id m (ap is_retired_map none);
            progs = λ q r. r;
          }

  -- ---- a new program
  module _ (id : ℕ) (prog : HostProg) (path : List ℕ) (none : map.get s.progs id ≡ None) (maps : has_maps s prog.code ≡ true) (live : prog.live ≡ true) where
    abbrev loading : State
    loading = with_prog s id prog path

    loaded_here : is_live_prog (map.get (map.insert s.progs id prog) id) ≡ true
    loaded_here = ap is_live_prog (get-put_same s.progs id (Some prog)) ∙ live

    live_still : (t : Target) → Live s t → Live loading t
    live_still (Map q) live = live
    live_still (Prog q) live = at_put s.progs id q (Some prog) (λ o. is_live_prog o ≡ true) (λ is. cc (sym (ap is_live_prog (ap (map.get s.progs) is ∙ none)) ∙ live)) live

    first_root : (t : Target) → IsRoot (map.insert s.pins path (Prog id)) s.devices t → Live loading t
    first_root t (inr a) = live_still t (root_live s h t (inr a))
    first_root t (inl p) = by (eq_by_cmp (slice_cmp nat_cmp) p.0 path) (sym (map.get-insert nat_list_cmp_total s.pins path (Prog id) p.0) ∙ p.1)
      where
        by : (b : Bool) → cond b (Some (Prog id)) (map.get s.pins p.0) ≡ Some t → Live loading t
        by true e = subst (Live loading) (same_some e) loaded_here
        by false e = live_still t (root_live s h t (inl (p.0, e)))

    all_of : {X : Type 0} (p : X → Bool) (xs : List X) → list_all p xs ≡ true → (x : X) → Contains xs x → p x ≡ true
    all_of p [] e x (k, lt, is) = absurd (omega (arith, lt))
    all_of p (z ∷ xs) e x (zero, lt, is) = ap p (sym is) ∙ (both_true (p z) (list_all p xs) e).0
    all_of p (z ∷ xs) e x (suc k, lt, is) = all_of p xs (both_true (p z) (list_all p xs) e).1 x (k, omega (arith, lt), is)

    named_live : (x : ℕ) → Contains (maps_named prog) x → Live s (Map x)
    named_live x has =
        let m = from_each (λ (m : ℕ × MapAttr). m.0) prog.code.maps x has in
        subst (λ k. Live s (Map k)) (sym m.2) (all_of (λ (m : ℕ × MapAttr). is_live_in s (Map m.0)) prog.code.maps maps m.0 m.1)

    of_prog : (to : Target) (q : ℕ) (p : HostProg) (x : ℕ) → map.get (map.insert s.progs id prog) q ≡ Some p → p.live ≡ true → Contains (maps_named p) x → to ≡ Map x → Live s to
    of_prog to q p x found live has is =
        subst (Live s) (sym is)
        (at_put s.progs id q (Some prog) (λ o. o ≡ Some p → Live s (Map x))
        (λ at found. named_live x (subst (λ (y : HostProg). Contains (maps_named y) x) (sym (same_some found)) has))
        (λ found. next_live s h (Prog q) (Map x) (ap is_live_prog found ∙ live) (to_links_prog s q p x found has)) found)

    next_loaded : (from to : Target) → Live loading from → Contains (links_of loading) (from, to) → Live loading to
    next_loaded from to live there = live_still to (by (from_links loading (from, to) there))
      where
        by : IsProgLink loading (from, to) ⊎ IsMapLink loading (from, to) → Live s to
        by (inl l) =
            of_prog to l.id l.prog l.named l.there (sym (ap is_live_prog l.there) ∙ subst (Live loading) (ap (λ (x : Target × Target). x.0) l.is) live) l.has (ap (λ (x : Target × Target). x.1) l.is)
        by (inr l) =
            subst (Live s) (sym (ap (λ (x : Target × Target). x.1) l.is))
            (next_live s h (Map l.id) (named_in l.host.attr.kind l.named) (subst (Live loading) (ap (λ (x : Target × Target). x.0) l.is) live) (to_links_map s l.id l.host l.named l.there l.has))

    loaded_moves : (t : State) → t ≡ settle loading → IsMove s t
    loaded_moves t is = record {
      middle = loading;
      settles = is;
      only = all_reached loading (Live loading) first_root next_loaded;
      maps = λ q r. r;
      progs = λ q r. at_put s.progs id q (Some prog) (λ o. is_retired_prog o ≡ true) (λ is. cc (sym (ap is_retired_prog (ap (map.get s.progs) is ∙ none)) ∙ r)) r;
    }

  load_moves : (t : State) (reply : Reply) (id : ℕ) (prog : HostProg) (path : List ℕ) → prog.live ≡ true → (there maps fine pinned : Bool) → map.contains_key s.progs id ≡ there → has_maps s prog.code ≡ maps
      → load_by s id prog path there maps fine pinned ≡ Ok (t, reply) → IsMove s t
  load_moves t reply id prog path live true maps fine pinned is all e = cc
  load_moves t reply id prog path live false false fine pinned is all e = cc
  load_moves t reply id prog path live false true false pinned is all e = cc
  load_moves t reply id prog path live false true true true is all e = cc
  load_moves t reply id prog path live false true true false is all e = loaded_moves id prog path (none_of (map.get s.progs id) is) all live t (sym (ap (state_or s) e))

  -- ---- any change
  moves : (t : State) (change : Change) (reply : Reply) → act s change ≡ Ok (t, reply) → IsMove s t
  unfolding act
  moves t (Create id attr charge name path template) reply e =
      create_moves t reply id attr charge name path template (map.contains_key s.maps id) (good attr && is_name name) (template_of s attr.kind template) refl e
  moves t (Operate origin id op) reply e = operate_moves t reply origin id op e
  moves t (Freeze id) reply e = freeze_moves t reply id e
  moves t (Link id key named flag) reply e = link_moves t reply id key named flag e
  moves t (Load id code name path) reply e = load_moves t reply id (new_prog code name) path refl (map.contains_key s.progs id) (has_maps s code) (is_path path) (map.contains_key s.pins path) refl refl e
  moves t (Pin target path) reply e = pin_moves s h t reply target path (is_live_in s target) (is_path path) (map.contains_key s.pins path) refl e
  moves t (Unpin path) reply e = unpin_moves s h t reply path (map.contains_key s.pins path) e
  moves t (Attach prog device overwrite) reply e = attach_moves s h t reply prog overwrite (is_live_in s (Prog prog)) (position_of s.devices device) refl e
  moves t (Detach device) reply e = detach_moves s h t reply (position_of s.devices device) e

  pub acts_settled : (t : State) (change : Change) (reply : Reply) → act s change ≡ Ok (t, reply) → IsSettled t
  acts_settled t change reply e = let m = moves t change reply e in subst IsSettled (sym m.settles) (is_settled m.middle m.only)

  pub map_stays_retired : (t : State) (change : Change) (reply : Reply) → act s change ≡ Ok (t, reply) → (id : ℕ) → is_retired_map (map.get s.maps id) ≡ true → is_retired_map (map.get t.maps id) ≡ true
  map_stays_retired t change reply e id r =
      let m = moves t change reply e in ap (λ (x : State). is_retired_map (map.get x.maps id)) m.settles ∙ retired_map m.middle id (m.maps id r)

  pub prog_stays_retired : (t : State) (change : Change) (reply : Reply) → act s change ≡ Ok (t, reply) → (id : ℕ) → is_retired_prog (map.get s.progs id) ≡ true → is_retired_prog (map.get t.progs id) ≡ true
  prog_stays_retired t change reply e id r =
      let m = moves t change reply e in ap (λ (x : State). is_retired_prog (map.get x.progs id)) m.settles ∙ retired_prog m.middle id (m.progs id r)
