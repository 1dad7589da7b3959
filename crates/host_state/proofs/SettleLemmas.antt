-- A settled state stays settled if no link goes and no root is taken away.
use Rattle.std.proofs.Common.{◌≡◌, ℕ, zero, suc, Bool, true, false, ◌&&◌, IsTrue, List, [], ◌∷◌, ◌++◌, map as each, replicate, Option, Some, None, cond, length, arith, refl, sym, ap, subst, ◌∙◌, inl, inr, Contains}
use Rattle.std.specs.Option.{option_map}
use Rattle.std.specs.List.{flat_map, filter_map}
use Rattle.std.specs.declared.cmp.Ordering.{Ordering}
use Rattle.std.specs.declared.cmp.Ordering.TheVariants.{Less, Equal, Greater}
use Rattle.std.specs.Ordering.{nat_cmp, is_eq, eq_by_cmp}
use Rattle.std.specs.Cmp.Lexicographic.{slice_cmp, nat_list_cmp_total}
use Rattle.std.specs.FinMap.{nat_cmp-IsAntisymmetric, slice_cmp-IsAntisymmetric, find, put}
use Rattle.std.specs.Cmp.{tied_itself, nat_cmp_total}
use Rattle.std.specs.Prelude.{◌⊎◌}
use Rattle.std.specs.FinMap as map
use Rattle.std.specs.FinMap.Entries.{by_order}
use Rattle.bt_mapkind.specs.declared.attr.MapType.{MapType}
use Rattle.bt_mapkind.specs.declared.attr.MapType.TheVariants.{Array, Hash, LpmTrie, Queue, Stack, ArrayOfMaps, ProgArray, HashOfMaps}
use Rattle.bt_mapkind.specs.declared.attr.MapAttr.{MapAttr}
use Rattle.bt_mapkind.specs.Contents.{Contents, fresh, fresh_of_type}
use Rattle.bt_roots.specs.declared.target.Target.{Target}
use Rattle.bt_roots.specs.declared.target.Target.TheVariants.{Map, Prog}
use Rattle.bt_roots.specs.Live.{is_live}
use Rattle.bt_roots.specs.Reachable.{Links, IsReachable, IsRoot, IsPinned, start, link}
use Rattle.bt_roots.proofs.LiveLemmas.{live_is}
use Rattle.bt_objects.specs.ById.{ById, mapped, put_at}
use Rattle.host_state.specs.State.{HostMap, HostProg, State}
use Rattle.host_state.specs.Settled.{ids_in, named_in, links_of_map, links_of_prog, links_of, is_reached, settle, is_live_map, is_live_in, IsSettled}
use Rattle.host_state.specs.Act.{with_contents, with_frozen}
use Rattle.host_state.proofs.ByIdLemmas.{same_some, at_put, get-put_same, mapped_same, mapped-put, get-mapped, entries-mapped, put_there}
use Rattle.host_state.proofs.LinkedLemmas.{IsMapLink, IsProgLink, from_links, all_reached, next_live, root_live}

stays : (live reached : Bool) → (IsTrue live → IsTrue reached) → live && reached ≡ live
stays true reached h = h refl
stays false reached h = refl

-- a settled state is what settling leaves
pub settle_settled : (s : State) → IsSettled s → settle s ≡ s
unfolding settle
settle_settled s h = λ i. record s {
  maps = mapped_same (λ id (m : HostMap). record m { live = m.live && is_reached s (Map id) }) s.maps
      (λ id m there j. record m { live = stays m.live (is_reached s (Map id)) (h.maps id m there) j }) i;
  progs = mapped_same (λ id (p : HostProg). record p { live = p.live && is_reached s (Prog id) }) s.progs
      (λ id p there j. record p { live = stays p.live (is_reached s (Prog id)) (h.progs id p there) j }) i;
}

-- ---- links
abbrev linked : ℕ → HostMap → Links
linked id m = links_of_map (id, m)

flat-each : (es : List (ℕ × HostMap)) → flat_map links_of_map es ≡ flat_map (λ (e : ℕ × Links). e.1) (each (λ e. (e.0, linked e.0 e.1)) es)
flat-each [] = refl
flat-each (e ∷ es) = ap (λ ls. links_of_map e ++ ls) (flat-each es)

-- the links of maps, by id
by_id : (maps : ById HostMap) → flat_map links_of_map (map.entries maps) ≡ flat_map (λ (e : ℕ × Links). e.1) (map.entries (mapped linked maps))
by_id maps = flat-each (map.entries maps) ∙ ap (flat_map (λ (e : ℕ × Links). e.1)) (sym (entries-mapped linked maps))

same_links : (old new : ById HostMap) → mapped linked new ≡ mapped linked old → flat_map links_of_map (map.entries new) ≡ flat_map links_of_map (map.entries old)
same_links old new same = by_id new ∙ ap (λ (m : ById Links). flat_map (λ (e : ℕ × Links). e.1) (map.entries m)) same ∙ sym (by_id old)

-- if nothing stood, an id without links is put
put_none : (id : ℕ) (es : List (ℕ × Links)) → find nat_cmp id es ≡ None → flat_map (λ (e : ℕ × Links). e.1) (put nat_cmp id [] es) ≡ flat_map (λ (e : ℕ × Links). e.1) es
put_none id [] none = refl
put_none id (e ∷ es) none = cases (nat_cmp id e.0) none (put_none id es)
  where
    cases : (order : Ordering) → cond (is_eq order) (Some e.1) (find nat_cmp id es) ≡ None
        → (find nat_cmp id es ≡ None → flat_map (λ (e : ℕ × Links). e.1) (put nat_cmp id [] es) ≡ flat_map (λ (e : ℕ × Links). e.1) es)
        → flat_map (λ (e : ℕ × Links). e.1) (by_order order ((id, []) ∷ e ∷ es) ((e.0, []) ∷ es) (e ∷ put nat_cmp id [] es)) ≡ flat_map (λ (e : ℕ × Links). e.1) (e ∷ es)
    cases Less none rest = refl
    cases Equal none rest = cc
    cases Greater none rest = ap (λ ls. e.1 ++ ls) (rest none)

no_links : (id : ℕ) (m : HostMap) → ids_in m.contents ≡ [] → linked id m ≡ []
no_links id m none = ap (λ ids. each (λ (x : ℕ). (Map id, named_in m.attr.kind x)) ids) none

-- ---- a map that takes the place of one with the same links
replaced_links : (s : State) (id : ℕ) (m n : HostMap) → map.get s.maps id ≡ Some m → linked id n ≡ linked id m → links_of (record s { maps = put_at s.maps id (Some n) }) ≡ links_of s
replaced_links s id m n there alike =
    let same : mapped linked (put_at s.maps id (Some n)) ≡ mapped linked s.maps =
    mapped-put linked s.maps id (Some n)
    ∙ put_there (mapped linked s.maps) id (Some (linked id n)) (get-mapped linked s.maps id ∙ ap (option_map (linked id)) there ∙ ap Some (sym alike)) in
    ap (λ ls. flat_map links_of_prog (map.entries s.progs) ++ ls) (same_links s.maps (put_at s.maps id (Some n)) same)

settled_replaced : (s : State) (id : ℕ) (m n : HostMap) → map.get s.maps id ≡ Some m → linked id n ≡ linked id m → n.live ≡ m.live → IsSettled s → IsSettled (record s { maps = put_at s.maps id (Some n) })
settled_replaced s id m n there alike same_live h =
    let same : (t : Target) → is_reached (record s { maps = put_at s.maps id (Some n) }) t ≡ is_reached s t = λ t. ap (λ ls. is_live s.pins s.devices ls t) (replaced_links s id m n there alike) in record {
      maps = λ q x at live. same (Map q) ∙ reached q x at live;
      progs = λ q p at live. same (Prog q) ∙ h.progs q p at live;
      only = λ t r. live_alike t ∙ h.only t (sym (same t) ∙ r);
    }
  where
    live_alike : (t : Target) → is_live_in (record s { maps = put_at s.maps id (Some n) }) t ≡ is_live_in s t
    live_alike (Map q) =
        at_put s.maps id q (Some n) (λ o. is_live_map o ≡ is_live_map (map.get s.maps q)) (λ is. same_live ∙ sym (ap is_live_map (ap (map.get s.maps) is ∙ there))) refl
    live_alike (Prog q) = refl

    reached : (q : ℕ) (x : HostMap) → map.get (put_at s.maps id (Some n)) q ≡ Some x → IsTrue x.live → IsTrue (is_reached s (Map q))
    reached q x =
        at_put s.maps id q (Some n) (λ o. o ≡ Some x → IsTrue x.live → IsTrue (is_reached s (Map q)))
        (λ is at live. h.maps q m (ap (map.get s.maps) is ∙ there) (sym same_live ∙ ap (λ (x : HostMap). x.live) (same_some at) ∙ live))
        (h.maps q x)

-- other contents without ids
pub settled_contents : (s : State) (id : ℕ) (m : HostMap) (new : Contents) → map.get s.maps id ≡ Some m → ids_in m.contents ≡ [] → ids_in new ≡ [] → IsSettled s
    → IsSettled (with_contents s id m new)
settled_contents s id m new there none none_new =
    let n : HostMap = record m { contents = new } in
    settled_replaced s id m n there (no_links id n none_new ∙ sym (no_links id m none)) refl

-- frozen, or no more
pub settled_frozen : (s : State) (id : ℕ) (m : HostMap) (frozen : Bool) → map.get s.maps id ≡ Some m → IsSettled s → IsSettled (with_frozen s id m frozen)
settled_frozen s id m frozen there = settled_replaced s id m (record m { frozen = frozen }) there refl refl

-- ---- a new map
no_slots : (n : ℕ) → filter_map (λ (slot : Option ℕ). slot) (replicate n None) ≡ []
no_slots zero = refl
no_slots (suc n) = no_slots n

no_entries : map.entries {X = ℕ} {R = slice_cmp nat_cmp} map.empty ≡ []
no_entries = no_length (map.entries map.empty) (sym (map.len-entries map.empty) ∙ map.len-empty (slice_cmp nat_cmp) ℕ)
  where
    no_length : (es : List (List ℕ × ℕ)) → length es ≡ 0 → es ≡ []
    no_length [] e = refl
    no_length (x ∷ es) e = absurd (omega arith)

pub fresh_names_none : (a : MapAttr) → ids_in (fresh a) ≡ []
fresh_names_none a = of_type a.kind
  where
    of_type : (kind : MapType) → ids_in (fresh_of_type kind a.value_size a.max_entries) ≡ []
    of_type Array = refl
    of_type Hash = refl
    of_type LpmTrie = refl
    of_type Queue = refl
    of_type Stack = refl
    of_type ArrayOfMaps = no_slots a.max_entries
    of_type ProgArray = no_slots a.max_entries
    of_type HashOfMaps = ap (each (λ (e : List ℕ × ℕ). e.1)) no_entries

abbrev created : State → ℕ → HostMap → List ℕ → State
created s id m path = record s { maps = map.insert s.maps id m; pins = map.insert s.pins path (Map id) }

created_links : (s : State) (id : ℕ) (m : HostMap) (path : List ℕ) → map.get s.maps id ≡ None → ids_in m.contents ≡ [] → links_of (created s id m path) ≡ links_of s
created_links s id m path none no_ids =
    let old = mapped linked s.maps in
    let nothing : find nat_cmp id (map.entries old) ≡ None = sym (map.get-entries old id) ∙ get-mapped linked s.maps id ∙ ap (option_map (linked id)) none in
    ap (λ ls. flat_map links_of_prog (map.entries s.progs) ++ ls) (
    by_id (map.insert s.maps id m)
    ∙ ap (λ (n : ById Links). flat_map (λ (e : ℕ × Links). e.1) (map.entries n)) (mapped-put linked s.maps id (Some m) ∙ ap (map.insert old id) (no_links id m no_ids))
    ∙ ap (flat_map (λ (e : ℕ × Links). e.1)) (map.entries-insert nat_cmp_total old id [])
    ∙ put_none id (map.entries old) nothing
    ∙ sym (by_id s.maps)
    )

-- what is reached from fewer roots is reached
pub more_roots : {Start More : Target → Type 0} (links : Links) (t : Target) → ((x : Target) → Start x → More x) → IsReachable Start links t → IsReachable More links t
more_roots links t more (start _ is) = start t (more t is)
more_roots links t more (link from _ r there) = link from t (more_roots links from more r) there

equal_of : (order : Ordering) → is_eq order ≡ true → order ≡ Equal
equal_of Less e = cc
equal_of Equal e = refl
equal_of Greater e = cc

same_path : (p q : List ℕ) → eq_by_cmp (slice_cmp nat_cmp) p q ≡ true → p ≡ q
same_path p q tied = slice_cmp-IsAntisymmetric nat_cmp-IsAntisymmetric p q (equal_of (slice_cmp nat_cmp p q) tied)

pub pinned_still : (s : State) (path : List ℕ) (new : Target) → map.get s.pins path ≡ None → (x : Target) → IsPinned s.pins x → IsPinned (map.insert s.pins path new) x
pinned_still s path new none x p =
    (p.0, map.get-insert nat_list_cmp_total s.pins path new p.0 ∙ cases (eq_by_cmp (slice_cmp nat_cmp) p.0 path) refl)
  where
    cases : (b : Bool) → eq_by_cmp (slice_cmp nat_cmp) p.0 path ≡ b → cond b (Some new) (map.get s.pins p.0) ≡ Some x
    cases true tied = cc (sym (ap (map.get s.pins) (same_path p.0 path tied)) ∙ p.1, none)
    cases false apart = p.1

pub settled_created : (s : State) (id : ℕ) (m : HostMap) (path : List ℕ) → map.get s.maps id ≡ None → map.get s.pins path ≡ None → ids_in m.contents ≡ [] → m.live ≡ true → IsSettled s
    → IsSettled (record s { maps = map.insert s.maps id m; pins = map.insert s.pins path (Map id) })
settled_created s id m path none free no_ids is_live h = record {
  maps = λ q n.
      at_put s.maps id q (Some m) (λ o. o ≡ Some n → IsTrue n.live → IsTrue (is_reached new (Map q)))
      (λ is at live. subst (λ k. IsTrue (is_reached new (Map k))) (sym is) ((live_is new.pins new.devices (links_of new) (Map id)).1 (start (Map id) (inl pinned))))
      (λ at live. still (Map q) (h.maps q n at live));
  progs = λ q p at live. still (Prog q) (h.progs q p at live);
  only = all_reached new (λ t. IsTrue (is_live_in new t)) first next;
}
  where
    new : State
    new = record s { maps = map.insert s.maps id m; pins = map.insert s.pins path (Map id) }

    -- what was live is live
    live_still : (t : Target) → IsTrue (is_live_in s t) → IsTrue (is_live_in (record s { maps = map.insert s.maps id m; pins = map.insert s.pins path (Map id) }) t)
    live_still (Map q) live =
        at_put s.maps id q (Some m) (λ o. is_live_map o ≡ true) (λ is. cc (sym (ap is_live_map (ap (map.get s.maps) is ∙ none)) ∙ live)) live
    live_still (Prog q) live = live

    first : (t : Target) → IsRoot (map.insert s.pins path (Map id)) s.devices t → IsTrue (is_live_in (record s { maps = map.insert s.maps id m; pins = map.insert s.pins path (Map id) }) t)
    first t (inr a) = live_still t (root_live s h t (inr a))
    first t (inl p) = by (eq_by_cmp (slice_cmp nat_cmp) p.0 path) (sym (map.get-insert nat_list_cmp_total s.pins path (Map id) p.0) ∙ p.1)
      where
        by : (b : Bool) → cond b (Some (Map id)) (map.get s.pins p.0) ≡ Some t → IsTrue (is_live_in (record s { maps = map.insert s.maps id m; pins = map.insert s.pins path (Map id) }) t)
        by true e =
            subst (λ x. IsTrue (is_live_in (record s { maps = map.insert s.maps id m; pins = map.insert s.pins path (Map id) }) x)) (same_some e)
            (ap is_live_map (get-put_same s.maps id (Some m)) ∙ is_live)
        by false e = live_still t (root_live s h t (inl (p.0, e)))

    -- a map that links to others was there
    was_live : (from : Target) (to : Target) → IsProgLink s (from, to) ⊎ IsMapLink s (from, to) → IsTrue (is_live_in (record s { maps = map.insert s.maps id m; pins = map.insert s.pins path (Map id) }) from)
        → IsTrue (is_live_in s from)
    was_live from to (inl l) live =
        let is : from ≡ Prog l.id = ap (λ (x : Target × Target). x.0) l.is in
        subst (λ x. IsTrue (is_live_in s x)) (sym is) (subst (λ x. IsTrue (is_live_in (record s { maps = map.insert s.maps id m; pins = map.insert s.pins path (Map id) }) x)) is live)
    was_live from to (inr l) live =
        let is : from ≡ Map l.id = ap (λ (x : Target × Target). x.0) l.is in
        subst (λ x. IsTrue (is_live_in s x)) (sym is)
        (old l.id l.host l.there (subst (λ x. IsTrue (is_live_in (record s { maps = map.insert s.maps id m; pins = map.insert s.pins path (Map id) }) x)) is live))
      where
        old : (q : ℕ) (host : HostMap) → map.get s.maps q ≡ Some host → is_live_map (map.get (map.insert s.maps id m) q) ≡ true → is_live_map (map.get s.maps q) ≡ true
        old q host there = at_put s.maps id q (Some m) (λ o. is_live_map o ≡ true → is_live_map (map.get s.maps q) ≡ true) (λ is live. cc (sym (ap (map.get s.maps) is ∙ none) ∙ there)) (λ live. live)

    next : (from to : Target) → IsTrue (is_live_in (record s { maps = map.insert s.maps id m; pins = map.insert s.pins path (Map id) }) from)
        → Contains (links_of (record s { maps = map.insert s.maps id m; pins = map.insert s.pins path (Map id) })) (from, to)
        → IsTrue (is_live_in (record s { maps = map.insert s.maps id m; pins = map.insert s.pins path (Map id) }) to)
    next from to live there =
        let old = subst (λ ls. Contains ls (from, to)) (created_links s id m path none no_ids) there in
        live_still to (next_live s h from to (was_live from to (from_links s (from, to) old) live) old)

    pinned : IsPinned (map.insert s.pins path (Map id)) (Map id)
    pinned = (path, map.get-insert nat_list_cmp_total s.pins path (Map id) path ∙ ap (λ b. cond b (Some (Map id)) (map.get s.pins path)) (ap is_eq (tied_itself nat_list_cmp_total path)))

    more : (x : Target) → IsRoot s.pins s.devices x → IsRoot (map.insert s.pins path (Map id)) s.devices x
    more x (inl p) = inl (pinned_still s path (Map id) free x p)
    more x (inr a) = inr a

    still : (t : Target) → IsTrue (is_reached s t) → IsTrue (is_reached (record s { maps = map.insert s.maps id m; pins = map.insert s.pins path (Map id) }) t)
    still t r =
        (live_is (map.insert s.pins path (Map id)) s.devices (links_of (record s { maps = map.insert s.maps id m; pins = map.insert s.pins path (Map id) })) t).1
        (subst (λ ls. IsReachable (IsRoot (map.insert s.pins path (Map id)) s.devices) ls t) (sym (created_links s id m path none no_ids))
        (more_roots (links_of s) t more ((live_is s.pins s.devices (links_of s) t).0 r)))
