-- What is listed to retire is what is live and not reachable.
use Rattle.std.proofs.Common.{◌≡◌, ℕ, Bool, true, false, ◌&&◌, ◌||◌, not, IsTrue, List, [], ◌∷◌, ◌++◌, Contains, Option, Some, None, cond, is_some, refl, sym, ap, subst, append-nil as append_nil, ◌∙◌}
use Rattle.std.specs.Prelude.{◌↔◌, if◌then◌else◌}
use Rattle.std.specs.List.{filter_map, AllByRecursion}
use Rattle.std.specs.Map.{keys_of}
use Rattle.std.specs.List.Sorted.{IsStrictlySortedBy}
use Rattle.std.specs.Option.{option_to_list}
use Rattle.std.specs.Ordering.{nat_cmp, eq_by_cmp, is_eq}
use Rattle.std.specs.Cmp.{eq_by_cmp_equiv}
use Rattle.std.proofs.lemmas.List.Elements.{filter_map-append}
use Rattle.std.proofs.lemmas.Map.Views.{list_any-from_Contains, Contains-from_any}
use Rattle.std.specs.declared.cmp.Ordering.{Ordering}
use Rattle.std.specs.declared.cmp.Ordering.TheVariants.{Less, Equal, Greater}
use Rattle.std.specs.FinMap as map
use Rattle.bt_mapkind.specs.Seen.{Seen}
use Rattle.bt_objects.specs.Boxes.{ById}
use Rattle.bt_roots.specs.declared.target.Target.{Target}
use Rattle.bt_roots.specs.declared.target.Target.TheVariants.{Map, Prog}
use Rattle.bt_roots.specs.TargetOrder.{target_cmp, target_order, tied_targets}
use Rattle.bt_roots.specs.Live.{is_same, is_live}
use Rattle.bt_roots.specs.Reachable.{IsAscending, Links}
use Rattle.bt_roots.specs.View.{RootsView}
use Rattle.host_state.specs.declared.entry.MapEntry.{MapEntry}
use Rattle.host_state.specs.State.{HostProg}
use Rattle.host_state.specs.Settled.{links_of, is_reached, is_live_prog, is_listed, ListsRetired}
use Rattle.host_state.specs.Hosts.{Entries, found_in, entry_at, prog_at, held, frozen_of, live_target_in, state_of}
use Rattle.host_retirement.specs.Gathered.{retires}
use Rattle.host_state.proofs.ByIdLemmas.{same_of}
use Rattle.host_state.proofs.HostLemmas.{live_host, live_prog_host}
use Rattle.host_retirement.proofs.IdLemmas.{one_kept}
use Rattle.host_state.proofs.RetireLemmas.{no_target}

abbrev pub retires_map : Entries → List Target → ℕ → Option Target
retires_map entries live id = retires entries live (Map id)

abbrev pub retires_prog : Entries → List Target → ℕ → Option Target
retires_prog entries live id = retires entries live (Prog id)

-- what retires: maps and then programs
abbrev all_retired : Entries → List Target → List Target
all_retired entries live =
    filter_map (retires_map entries live) (keys_of entries.maps) ++ filter_map (retires_prog entries live) (keys_of entries.progs)

both_ways : (a b : Bool) → (a ≡ true → b ≡ true) → (b ≡ true → a ≡ true) → a ≡ b
both_ways true true f g = refl
both_ways true false f g = sym (f refl)
both_ways false true f g = g refl
both_ways false false f g = refl

tied : (o : Ordering) → is_eq o ≡ true → o ≡ Equal
tied Less e = cc
tied Equal e = refl
tied Greater e = cc

-- what is listed is what is reached
pub listed_reached : (live : List Target) (t : Target) (reached : Bool) → (Contains live t ↔ IsTrue reached) → is_listed live t ≡ reached
listed_reached live t reached same =
    both_ways (is_listed live t) reached
    (λ found. same.0 (Contains-from_any {eq = is_same} (λ x y e. tied_targets x y (tied (target_cmp x y) e)) t live found))
    (λ is. list_any-from_Contains {eq = is_same} (eq_by_cmp_equiv target_order) t live (same.1 is))

-- ---- what is kept of a table by a function that gives nothing, or the object of the id
abbrev Names : (ℕ → Target) → (ℕ → Option Target) → Type 0
Names name d = (id : ℕ) (t : Target) → d id ≡ Some t → t ≡ name id

abbrev IsOwn : (ℕ → Target) → Type 0
IsOwn name = (q id : ℕ) → is_same (name q) (name id) ≡ eq_by_cmp nat_cmp q id

abbrev IsApart : (ℕ → Target) → (ℕ → Target) → Type 0
IsApart name other = (q id : ℕ) → is_same (other q) (name id) ≡ false

cons_kept : (d : ℕ → Option Target) (id : ℕ) (ids : List ℕ) → filter_map d (id ∷ ids) ≡ option_to_list (d id) ++ filter_map d ids
cons_kept d id ids = filter_map-append d (id ∷ []) ids ∙ ap (λ ts. ts ++ filter_map d ids) (one_kept d id)

nor : (b : Bool) → b && false ≡ false
nor true = refl
nor false = refl

first_own : {X : Type 0} (name : ℕ → Target) → IsOwn name → (d : ℕ → Option Target) → Names name d → (id : ℕ) (entry : Option X) (es : List (ℕ × Option X)) (q : ℕ)
    → is_listed (filter_map d (keys_of es)) (name q) ≡ is_some (found_in es q) && is_some (d q)
    → (b : Bool) → eq_by_cmp nat_cmp q id ≡ b → (o : Option Target) → d id ≡ o
    → is_listed (option_to_list o ++ filter_map d (keys_of es)) (name q) ≡ is_some (cond b (Some entry) (found_in es q)) && is_some (d q)
first_own name own d names id entry es q rest true same None is =
    let gone : is_some (d q) ≡ false = ap (λ k. is_some (d k)) (same_of q id same) ∙ ap is_some is in
    rest ∙ ap (λ b. is_some (found_in es q) && b) gone ∙ nor (is_some (found_in es q)) ∙ sym gone
first_own name own d names id entry es q rest false apart None is = rest
first_own name own d names id entry es q rest true same (Some t) is =
    let there : is_some (d q) ≡ true = ap (λ k. is_some (d k)) (same_of q id same) ∙ ap is_some is in
    ap (λ x. is_same (name q) x || is_listed (filter_map d (keys_of es)) (name q)) (names id t is)
    ∙ ap (λ b. b || is_listed (filter_map d (keys_of es)) (name q)) (own q id ∙ same)
    ∙ sym there
first_own name own d names id entry es q rest false apart (Some t) is =
    ap (λ x. is_same (name q) x || is_listed (filter_map d (keys_of es)) (name q)) (names id t is)
    ∙ ap (λ b. b || is_listed (filter_map d (keys_of es)) (name q)) (own q id ∙ apart)
    ∙ rest

listed_own : {X : Type 0} (name : ℕ → Target) → IsOwn name → (d : ℕ → Option Target) → Names name d → (es : List (ℕ × Option X)) (q : ℕ)
    → is_listed (filter_map d (keys_of es)) (name q) ≡ is_some (found_in es q) && is_some (d q)
listed_own name own d names [] q = refl
listed_own name own d names (e ∷ es) q =
    ap (λ ts. is_listed ts (name q)) (cons_kept d e.0 (keys_of es))
    ∙ first_own name own d names e.0 e.1 es q (listed_own name own d names es q) (eq_by_cmp nat_cmp q e.0) refl (d e.0) refl

first_other : (name other : ℕ → Target) → IsApart name other → (d : ℕ → Option Target) → Names name d → (id : ℕ) (ids : List ℕ) (q : ℕ) → is_listed (filter_map d ids) (other q) ≡ false
    → (o : Option Target) → d id ≡ o → is_listed (option_to_list (d id) ++ filter_map d ids) (other q) ≡ false
first_other name other apart d names id ids q rest None is = ap (λ x. is_listed (option_to_list x ++ filter_map d ids) (other q)) is ∙ rest
first_other name other apart d names id ids q rest (Some t) is =
    ap (λ x. is_listed (option_to_list x ++ filter_map d ids) (other q)) (is ∙ ap Some (names id t is))
    ∙ ap (λ b. b || is_listed (filter_map d ids) (other q)) (apart q id)
    ∙ rest

listed_other : (name other : ℕ → Target) → IsApart name other → (d : ℕ → Option Target) → Names name d → (ids : List ℕ) (q : ℕ) → is_listed (filter_map d ids) (other q) ≡ false
listed_other name other apart d names [] q = refl
listed_other name other apart d names (id ∷ ids) q =
    ap (λ ts. is_listed ts (other q)) (cons_kept d id ids) ∙ first_other name other apart d names id ids q (listed_other name other apart d names ids q) (d id) refl

or_apart : (a b c : Bool) → a || (b || c) ≡ (a || b) || c
or_apart true b c = refl
or_apart false b c = refl

listed_both : (t : Target) (xs ys : List Target) → is_listed (xs ++ ys) t ≡ is_listed xs t || is_listed ys t
listed_both t [] ys = refl
listed_both t (x ∷ xs) ys = ap (λ b. is_same t x || b) (listed_both t xs ys) ∙ or_apart (is_same t x) (is_listed xs t) (is_listed ys t)

-- ---- maps and programs that retire
some_if : (retired : Bool) (target : Target) → is_some (if retired then Some target else None) ≡ retired
some_if true target = refl
some_if false target = refl

the_target : (retired : Bool) (target t : Target) → (if retired then Some target else None) ≡ Some t → t ≡ target
the_target true target t e = cc e
the_target false target t e = cc

names_map : (entries : Entries) (live : List Target) → Names Map (retires_map entries live)
names_map entries live id t e = the_target (live_target_in entries (Map id) && not (is_listed live (Map id))) (Map id) t e

names_prog : (entries : Entries) (live : List Target) → Names Prog (retires_prog entries live)
names_prog entries live id t e = the_target (live_target_in entries (Prog id) && not (is_listed live (Prog id))) (Prog id) t e

there_if : (o : Option (Option MapEntry)) (reached : Bool) → is_some o && (is_some (frozen_of (held o)) && not reached) ≡ is_some (frozen_of (held o)) && not reached
there_if None reached = refl
there_if (Some e) reached = refl

prog_there_if : (o : Option (Option HostProg)) (b : Bool) → is_some o && (is_live_prog (held o) && b) ≡ is_live_prog (held o) && b
prog_there_if None b = refl
prog_there_if (Some p) b = refl

or_false : (b : Bool) → b || false ≡ b
or_false true = refl
or_false false = refl

pub lists_retired : (boxes : ById Seen) (entries : Entries) (roots : RootsView) (links : Links) (live targets : List Target)
    → ((id : ℕ) → is_some (entry_at entries id) ≡ is_some (map.get boxes id)) → links ≡ links_of (state_of boxes entries roots)
    → ((t : Target) → Contains live t ↔ IsTrue (is_live roots.pins roots.devices links t)) → targets ≡ all_retired entries live
    → ListsRetired (state_of boxes entries roots) targets
lists_retired boxes entries roots links live targets same links_are reached are (Map q) =
    let s = state_of boxes entries roots in
    let o = entry_at entries q in
    let is_there : is_listed live (Map q) ≡ is_reached s (Map q) =
    listed_reached live (Map q) (is_live roots.pins roots.devices links (Map q)) (reached (Map q)) ∙ ap (λ ls. is_live roots.pins roots.devices ls (Map q)) links_are in
    ap (λ ts. is_listed ts (Map q)) are
    ∙ listed_both (Map q) (filter_map (retires_map entries live) (keys_of entries.maps)) (filter_map (retires_prog entries live) (keys_of entries.progs))
    ∙ ap (λ b. is_listed (filter_map (retires_map entries live) (keys_of entries.maps)) (Map q) || b)
    (listed_other Prog Map (λ q id. refl) (retires_prog entries live) (names_prog entries live) (keys_of entries.progs) q)
    ∙ or_false (is_listed (filter_map (retires_map entries live) (keys_of entries.maps)) (Map q))
    ∙ listed_own Map (λ q id. refl) (retires_map entries live) (names_map entries live) entries.maps q
    ∙ ap (λ b. is_some o && b) (some_if (live_target_in entries (Map q) && not (is_listed live (Map q))) (Map q))
    ∙ there_if o (is_listed live (Map q))
    ∙ (λ i. live_host boxes entries q (same q) i && not (is_there i))
lists_retired boxes entries roots links live targets same links_are reached are (Prog q) =
    let s = state_of boxes entries roots in
    let o = prog_at entries q in
    let is_there : is_listed live (Prog q) ≡ is_reached s (Prog q) =
    listed_reached live (Prog q) (is_live roots.pins roots.devices links (Prog q)) (reached (Prog q)) ∙ ap (λ ls. is_live roots.pins roots.devices ls (Prog q)) links_are in
    ap (λ ts. is_listed ts (Prog q)) are
    ∙ listed_both (Prog q) (filter_map (retires_map entries live) (keys_of entries.maps)) (filter_map (retires_prog entries live) (keys_of entries.progs))
    ∙ ap (λ b. b || is_listed (filter_map (retires_prog entries live) (keys_of entries.progs)) (Prog q))
    (listed_other Map Prog (λ q id. refl) (retires_map entries live) (names_map entries live) (keys_of entries.maps) q)
    ∙ listed_own Prog (λ q id. refl) (retires_prog entries live) (names_prog entries live) entries.progs q
    ∙ ap (λ b. is_some o && b) (some_if (live_target_in entries (Prog q) && not (is_listed live (Prog q))) (Prog q))
    ∙ prog_there_if o (not (is_listed live (Prog q)))
    ∙ (λ i. live_prog_host entries q i && not (is_there i))

-- ---- in ascending order
all_append : (P : Target → Type 0) (xs ys : List Target) → AllByRecursion P xs → AllByRecursion P ys → AllByRecursion P (xs ++ ys)
all_append P [] ys h k = k
all_append P (x ∷ xs) ys h k = (h.0, all_append P xs ys h.1 k)

-- what is below all of these ids is below what is kept of them
below_kept : (name : ℕ → Target) (d : ℕ → Option Target) → Names name d → (t : Target) (ids : List ℕ) → AllByRecursion (λ j. target_cmp t (name j) ≡ Less) ids
    → AllByRecursion (λ u. target_cmp t u ≡ Less) (filter_map d ids)
below_kept name d names t [] h = tt
below_kept name d names t (id ∷ ids) h = subst (AllByRecursion (λ u. target_cmp t u ≡ Less)) (sym (cons_kept d id ids)) (here (d id) refl (below_kept name d names t ids h.1))
  where
    here : (o : Option Target) → d id ≡ o → AllByRecursion (λ u. target_cmp t u ≡ Less) (filter_map d ids) → AllByRecursion (λ u. target_cmp t u ≡ Less) (option_to_list o ++ filter_map d ids)
    here None is rest = rest
    here (Some u) is rest = (subst (λ x. target_cmp t x ≡ Less) (sym (names id u is)) h.0, rest)

abbrev IsOrdered : (ℕ → Target) → Type 0
IsOrdered name = (q id : ℕ) → target_cmp (name q) (name id) ≡ nat_cmp q id

below_named : (name : ℕ → Target) → IsOrdered name → (id : ℕ) (ids : List ℕ) → AllByRecursion (λ j. nat_cmp id j ≡ Less) ids → AllByRecursion (λ j. target_cmp (name id) (name j) ≡ Less) ids
below_named name ordered id [] h = tt
below_named name ordered id (j ∷ ids) h = (ordered id j ∙ h.0, below_named name ordered id ids h.1)

kept_ascend : (name : ℕ → Target) → IsOrdered name → (d : ℕ → Option Target) → Names name d → (rest : List Target) → IsAscending rest → ((id : ℕ) → AllByRecursion (λ u. target_cmp (name id) u ≡ Less) rest)
    → (ids : List ℕ) → IsStrictlySortedBy nat_cmp ids → IsAscending (filter_map d ids ++ rest)
unfolding IsStrictlySortedBy
kept_ascend name ordered d names rest sorted below [] h = sorted
kept_ascend name ordered d names rest sorted below (id ∷ ids) h =
    subst (λ ts. IsAscending (ts ++ rest)) (sym (cons_kept d id ids)) (here (d id) refl (kept_ascend name ordered d names rest sorted below ids h.1))
  where
    here : (o : Option Target) → d id ≡ o → IsAscending (filter_map d ids ++ rest) → IsAscending ((option_to_list o ++ filter_map d ids) ++ rest)
    here None is tail = tail
    here (Some t) is tail = (
      subst (λ x. AllByRecursion (λ u. target_cmp x u ≡ Less) (filter_map d ids ++ rest)) (sym (names id t is))
          (all_append (λ u. target_cmp (name id) u ≡ Less) (filter_map d ids) rest (below_kept name d names (name id) ids (below_named name ordered id ids h.0)) (below id)),
      tail,
    )

-- maps come before programs
map_below : (id : ℕ) (ids : List ℕ) → AllByRecursion (λ j. target_cmp (Map id) (Prog j) ≡ Less) ids
map_below id [] = tt
map_below id (j ∷ ids) = (refl, map_below id ids)

pub all_ascend : (entries : Entries) (live : List Target) → IsStrictlySortedBy nat_cmp (keys_of entries.maps) → IsStrictlySortedBy nat_cmp (keys_of entries.progs) → IsAscending (all_retired entries live)
all_ascend entries live maps progs =
    kept_ascend Map (λ q id. refl) (retires_map entries live) (names_map entries live) (filter_map (retires_prog entries live) (keys_of entries.progs))
    (subst IsAscending (append_nil (filter_map (retires_prog entries live) (keys_of entries.progs))) (kept_ascend Prog (λ q id. refl) (retires_prog entries live) (names_prog entries live) [] no_target (λ id. tt) (keys_of entries.progs) progs))
    (λ id. below_kept Prog (retires_prog entries live) (names_prog entries live) (Map id) (keys_of entries.progs) (map_below id (keys_of entries.progs)))
    (keys_of entries.maps)
    maps
