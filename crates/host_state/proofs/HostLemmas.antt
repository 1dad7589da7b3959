-- The maps and the programs of a world by its boxes and entries: what is found under an id, and what one change of
-- either changes.
use Rattle.std.proofs.Common.{◌≡◌, ◌+◌, ℕ, Bool, true, false, List, [], ◌∷◌, map as each, Option, Some, None, is_some, cond, refl, sym, ap, ◌∙◌}
use Rattle.std.specs.Option.{option_map}
use Rattle.std.specs.Ordering.{nat_cmp, eq_by_cmp}
use Rattle.std.specs.Cmp.{nat_cmp_total, eq_by_cmp_equiv}
use Rattle.std.specs.FinMap as map
use Rattle.std.specs.FinSet as set
use Rattle.std.specs.Map.{keys_of}
use Rattle.bt_mapkind.specs.Seen.{Seen}
use Rattle.std.specs.List.{sum_by}
use Rattle.std.proofs.lemmas.List.Sums.{sum_by-cons}
use Rattle.bt_objects.specs.Boxes.{make_of, charged_of as boxes_charged_of}
use Rattle.bt_objects.specs.declared.make.Make.{Make}
use Rattle.host_state.specs.World.{Ids, charged_of}
use Rattle.host_state.specs.State.{hosted, HostProg}
use Rattle.host_state.specs.declared.entry.MapEntry.{MapEntry}
use Rattle.bt_objects.specs.ById.{ById, mapped, put_at, laid}
use Rattle.host_state.specs.Hosts.{Entries, held, held_as, found_in, entry_at, prog_at, host_of, hosts_of, progs_of, PutsEntry, PutsProg, frozen_of, state_of, live_target_in, live_in}
use Rattle.host_state.proofs.ByIdLemmas.{same_of, same_map, get-put_at, put_there, mapped-put, get-mapped, entries-mapped}
use Rattle.std.specs.Prelude.{if◌then◌else◌}
use Rattle.bt_roots.specs.View.{RootsView}
use Rattle.host_state.specs.Settled.{is_live_map, is_live_prog, is_live_in}
use Rattle.host_state.specs.Act.{if_live}
use Rattle.bt_roots.specs.declared.target.Target.{Target}
use Rattle.bt_roots.specs.declared.target.Target.TheVariants.{Map, Prog}

-- a map is frozen, or no more; an object is live, or not
abbrev pub frozen_as : Bool → Option (Option MapEntry) → Option (Option MapEntry)
frozen_as frozen found = held_as (λ (entry : MapEntry). record entry { frozen = frozen }) found

abbrev pub lives_as : Bool → Option (Option MapEntry) → Option (Option MapEntry)
lives_as live found = held_as (λ (entry : MapEntry). record entry { live = live }) found

abbrev pub prog_lives_as : Bool → Option (Option HostProg) → Option (Option HostProg)
prog_lives_as live found = held_as (λ (prog : HostProg). record prog { live = live }) found

-- the ids with room for a program
abbrev pub room_in : Entries → Ids
room_in entries = set.from_list (keys_of entries.progs)

held-cond : {X : Type 0} (b : Bool) (x : Option X) (y : Option (Option X)) → cond b x (held y) ≡ held (cond b (Some x) y)
held-cond true x y = refl
held-cond false x y = refl

-- what is laid of a table is what the function makes of what is found there
pub get-laid : {X Y : Type 0} (f : ℕ → Option X → Option Y) (es : List (ℕ × Option X)) (id : ℕ) → ((q : ℕ) → f q None ≡ None) → map.get (laid f es) id ≡ f id (held (found_in es id))
get-laid f [] id none = map.get-empty nat_cmp id ∙ sym (none id)
get-laid {X} {Y} f (e ∷ es) id none = get-put_at (laid f es) e.0 id (f e.0 e.1) ∙ cases (eq_by_cmp nat_cmp id e.0) refl (get-laid f es id none)
  where
    cases : (b : Bool) → eq_by_cmp nat_cmp id e.0 ≡ b → map.get (laid f es) id ≡ f id (held (found_in es id))
        → cond b (f e.0 e.1) (map.get (laid f es) id) ≡ f id (held (cond b (Some e.1) (found_in es id)))
    cases true tied rest = ap (λ k. f k e.1) (sym (same_of id e.0 tied))
    cases false apart rest = rest

pub no_host : (o : Option Seen) → host_of o None ≡ None
no_host None = refl
no_host (Some s) = refl

-- a map is what its box and its entry make
pub get-hosts_of : (boxes : ById Seen) (entries : Entries) (id : ℕ) → map.get (hosts_of boxes entries) id ≡ host_of (map.get boxes id) (held (entry_at entries id))
get-hosts_of boxes entries id = get-laid (λ id entry. host_of (map.get boxes id) entry) entries.maps id (λ q. no_host (map.get boxes q))

-- a program is what its entry holds
pub get-progs_of : (entries : Entries) (id : ℕ) → map.get (progs_of entries) id ≡ held (prog_at entries id)
get-progs_of entries id = get-laid (λ id prog. prog) entries.progs id (λ q. refl)

-- if the same is found, the maps are the same
pub hosts_same : (boxes : ById Seen) (old new : Entries) → ((q : ℕ) → entry_at new q ≡ entry_at old q) → hosts_of boxes new ≡ hosts_of boxes old
hosts_same boxes old new same =
    same_map _ _ (λ q. get-hosts_of boxes new q ∙ ap (λ o. host_of (map.get boxes q) (held o)) (same q) ∙ sym (get-hosts_of boxes old q))

turn_round : (id q : ℕ) → eq_by_cmp nat_cmp id q ≡ eq_by_cmp nat_cmp q id
turn_round = (eq_by_cmp_equiv nat_cmp_total).symm

-- an entry is put
pub hosts_put : (boxes : ById Seen) (old new : Entries) (id : ℕ) (entry : Option MapEntry) → PutsEntry old new id (Some entry)
    → hosts_of boxes new ≡ put_at (hosts_of boxes old) id (host_of (map.get boxes id) entry)
hosts_put boxes old new id entry puts =
    same_map _ _ (λ q.
    get-hosts_of boxes new q
    ∙ ap (λ o. host_of (map.get boxes q) (held o)) (puts.0 q ∙ ap (λ b. cond b (Some entry) (entry_at old q)) (turn_round id q))
    ∙ cases q (eq_by_cmp nat_cmp q id) refl
    ∙ ap (cond (eq_by_cmp nat_cmp q id) (host_of (map.get boxes id) entry)) (sym (get-hosts_of boxes old q))
    ∙ sym (get-put_at (hosts_of boxes old) id q (host_of (map.get boxes id) entry)))
  where
    cases : (q : ℕ) (b : Bool) → eq_by_cmp nat_cmp q id ≡ b
        → host_of (map.get boxes q) (held (cond b (Some entry) (entry_at old q))) ≡ cond b (host_of (map.get boxes id) entry) (host_of (map.get boxes q) (held (entry_at old q)))
    cases q true tied = ap (λ k. host_of (map.get boxes k) entry) (same_of q id tied)
    cases q false apart = refl

-- a program is put
pub progs_put : (old new : Entries) (id : ℕ) (prog : Option HostProg) → PutsProg old new id (Some prog) → progs_of new ≡ put_at (progs_of old) id prog
progs_put old new id prog puts =
    same_map _ _ (λ q.
    get-progs_of new q
    ∙ ap (λ (o : Option (Option HostProg)). held o) (puts.0 q ∙ ap (λ b. cond b (Some prog) (prog_at old q)) (turn_round id q))
    ∙ sym (held-cond (eq_by_cmp nat_cmp q id) prog (prog_at old q))
    ∙ ap (cond (eq_by_cmp nat_cmp q id) prog) (sym (get-progs_of old q))
    ∙ sym (get-put_at (progs_of old) id q prog))

-- entries of the same maps, or of the same programs
pub same_hosts : (boxes : ById Seen) (old new : Entries) → new.maps ≡ old.maps → hosts_of boxes new ≡ hosts_of boxes old
same_hosts boxes old new same = ap (laid (λ id entry. host_of (map.get boxes id) entry)) same

pub same_progs : (old new : Entries) → new.progs ≡ old.progs → progs_of new ≡ progs_of old
same_progs old new same = ap (laid (λ id (prog : Option HostProg). prog)) same

-- a box is put
pub hosts_changed : (boxes : ById Seen) (entries : Entries) (id : ℕ) (s : Seen)
    → hosts_of (map.insert boxes id s) entries ≡ put_at (hosts_of boxes entries) id (host_of (Some s) (held (entry_at entries id)))
hosts_changed boxes entries id s =
    same_map _ _ (λ q.
    get-hosts_of (map.insert boxes id s) entries q
    ∙ ap (λ o. host_of o (held (entry_at entries q))) (map.get-insert nat_cmp_total boxes id s q)
    ∙ cases q (eq_by_cmp nat_cmp q id) refl
    ∙ ap (cond (eq_by_cmp nat_cmp q id) (host_of (Some s) (held (entry_at entries id)))) (sym (get-hosts_of boxes entries q))
    ∙ sym (get-put_at (hosts_of boxes entries) id q (host_of (Some s) (held (entry_at entries id)))))
  where
    cases : (q : ℕ) (b : Bool) → eq_by_cmp nat_cmp q id ≡ b
        → host_of (cond b (Some s) (map.get boxes q)) (held (entry_at entries q)) ≡ cond b (host_of (Some s) (held (entry_at entries id))) (host_of (map.get boxes q) (held (entry_at entries q)))
    cases q true tied = ap (λ k. host_of (Some s) (held (entry_at entries k))) (same_of q id tied)
    cases q false apart = refl

-- what the boxes were made with, after one is replaced by another of the same make
pub makes_kept : (boxes : ById Seen) (id : ℕ) (s t : Seen) → map.get boxes id ≡ Some s → make_of t ≡ make_of s
    → mapped (λ id s. make_of s) (map.insert boxes id t) ≡ mapped (λ id s. make_of s) boxes
makes_kept boxes id s t there same =
    mapped-put (λ id s. make_of s) boxes id (Some t)
    ∙ put_there (mapped (λ id s. make_of s) boxes) id (Some (make_of t)) (get-mapped (λ id s. make_of s) boxes id ∙ ap (option_map make_of) there ∙ ap Some (sym same))

-- a map stands if there is an entry with one
pub is_some-host : (boxes : ById Seen) (entries : Entries) (id : ℕ) → is_some (entry_at entries id) ≡ is_some (map.get boxes id)
    → is_some (held (entry_at entries id)) ≡ is_some (map.get (hosts_of boxes entries) id)
is_some-host boxes entries id same = cases (entry_at entries id) (map.get boxes id) same ∙ sym (ap is_some (get-hosts_of boxes entries id))
  where
    cases : (o : Option (Option MapEntry)) (box : Option Seen) → is_some o ≡ is_some box → is_some (held o) ≡ is_some (host_of box (held o))
    cases None None e = refl
    cases None (Some s) e = cc
    cases (Some entry) None e = cc
    cases (Some None) (Some s) e = refl
    cases (Some (Some entry)) (Some s) e = refl

-- ---- charges
sum-each : (es : List (ℕ × Seen)) → sum_by (λ (e : ℕ × Make). e.1.charge) (each (λ (e : ℕ × Seen). (e.0, make_of e.1)) es) ≡ sum_by (λ (e : ℕ × Seen). e.1.charge) es
sum-each [] = refl
sum-each (e ∷ es) =
    sum_by-cons (λ (e : ℕ × Make). e.1.charge) (e.0, make_of e.1) (each (λ (e : ℕ × Seen). (e.0, make_of e.1)) es)
    ∙ ap (λ n. e.1.charge + n) (sum-each es)
    ∙ sym (sum_by-cons (λ (e : ℕ × Seen). e.1.charge) e es)

pub charged_same : (boxes : ById Seen) → charged_of (mapped (λ id s. make_of s) boxes) ≡ boxes_charged_of boxes
charged_same boxes = ap (sum_by (λ (e : ℕ × Make). e.1.charge)) (entries-mapped (λ id s. make_of s) boxes) ∙ sum-each (map.entries boxes)

pub held_some : (o : Option (Option MapEntry)) (entry : MapEntry) → held o ≡ Some entry → o ≡ Some (Some entry)
held_some None entry e = cc
held_some (Some o) entry e = ap Some e

live_entry : (box : Option Seen) (o : Option (Option MapEntry)) → is_some o ≡ is_some box → is_some (frozen_of (held o)) ≡ is_live_map (host_of box (held o))
live_entry None None same = refl
live_entry None (Some e) same = cc
live_entry (Some s) None same = refl
live_entry (Some s) (Some None) same = refl
live_entry (Some s) (Some (Some e)) same = by_live e.live
  where
    by_live : (live : Bool) → is_some (if live then Some e.frozen else None) ≡ live
    by_live true = refl
    by_live false = refl

pub live_host : (boxes : ById Seen) (entries : Entries) (id : ℕ) → is_some (entry_at entries id) ≡ is_some (map.get boxes id)
    → is_some (frozen_of (held (entry_at entries id))) ≡ is_live_map (map.get (hosts_of boxes entries) id)
live_host boxes entries id same = live_entry (map.get boxes id) (entry_at entries id) same ∙ sym (ap is_live_map (get-hosts_of boxes entries id))

-- whether a program is live by its entry
pub live_prog_host : (entries : Entries) (id : ℕ) → is_live_prog (held (prog_at entries id)) ≡ is_live_prog (map.get (progs_of entries) id)
live_prog_host entries id = sym (ap is_live_prog (get-progs_of entries id))

pub live_target : (boxes : ById Seen) (entries : Entries) (roots : RootsView) (target : Target) → ((id : ℕ) → is_some (entry_at entries id) ≡ is_some (map.get boxes id))
    → live_target_in entries target ≡ is_live_in (state_of boxes entries roots) target
live_target boxes entries roots (Map id) same = live_host boxes entries id (same id)
live_target boxes entries roots (Prog id) same = live_prog_host entries id

-- if nothing is live
pub nothing_live : (boxes : ById Seen) (entries : Entries) (id : ℕ) → frozen_of (held (entry_at entries id)) ≡ None → live_in boxes entries id ≡ None
nothing_live boxes entries id none = by_entry (held (entry_at entries id)) (map.get boxes id) none
  where
    by_live : (entry : MapEntry) (b : Seen) (live : Bool) → let none : Option Bool = None in (if live then Some entry.frozen else None) ≡ none
        → (if live then Some (hosted (make_of b) b.contents entry) else None) ≡ None
    by_live entry b true e = cc
    by_live entry b false e = refl

    by_entry : (o : Option MapEntry) (box : Option Seen) → frozen_of o ≡ None → if_live (host_of box o) ≡ None
    by_entry None None e = refl
    by_entry None (Some b) e = refl
    by_entry (Some entry) None e = refl
    by_entry (Some entry) (Some b) e = by_live entry b entry.live e

-- if a map is live
pub record IsLive (boxes : ById Seen) (entries : Entries) (id : ℕ) : Type 0 where
  pub box : Seen
  pub entry : MapEntry
  pub there : map.get boxes id ≡ Some box
  pub entry_there : entry_at entries id ≡ Some (Some entry)
  pub is_live : entry.live ≡ true
  pub live : live_in boxes entries id ≡ Some (hosted (make_of box) box.contents entry)

pub live_there : (boxes : ById Seen) (entries : Entries) (id : ℕ) → is_some (entry_at entries id) ≡ is_some (map.get boxes id) → is_some (frozen_of (held (entry_at entries id))) ≡ true
    → IsLive boxes entries id
live_there boxes entries id same live = at (entry_at entries id) (map.get boxes id) refl refl same live
  where
    by_live : (e : Option (Option MapEntry)) (b : Seen) (entry : MapEntry) → entry_at entries id ≡ Some (Some entry) → map.get boxes id ≡ Some b → (live : Bool) → entry.live ≡ live
        → is_some (if live then Some entry.frozen else None) ≡ true → IsLive boxes entries id
    by_live e b entry e_is b_is true is l =
        record { box = b; entry = entry; there = b_is; entry_there = e_is; is_live = is; live = (λ i. if_live (host_of (b_is i) (held (e_is i)))) ∙ ap (λ x. if x then Some (hosted (make_of b) b.contents entry) else None) is }
    by_live e b entry e_is b_is false is l = cc

    at : (e : Option (Option MapEntry)) (b : Option Seen) → entry_at entries id ≡ e → map.get boxes id ≡ b → is_some e ≡ is_some b → is_some (frozen_of (held e)) ≡ true → IsLive boxes entries id
    at None b e_is b_is same l = cc
    at (Some None) b e_is b_is same l = cc
    at (Some (Some entry)) None e_is b_is same l = cc
    at (Some (Some entry)) (Some b) e_is b_is same l = by_live (Some (Some entry)) b entry e_is b_is entry.live refl l
