-- No change takes an object out of a state, or makes a map another.
use Rattle.std.proofs.Common.{◌≡◌, ℕ, Bool, true, false, ◌&&◌, ◌||◌, not, IsTrue, List, Option, Some, None, Result, Ok, Err, is_some, cond, refl, sym, ap, ◌∙◌}
use Rattle.std.specs.Prelude.{if◌then◌else◌}
use Rattle.std.specs.Option.{option_map}
use Rattle.std.specs.FinMap as map
use Rattle.std.specs.FinMap.{nat_cmp-IsAntisymmetric}
use Rattle.std.specs.Ordering.{is_eq}
use Rattle.host_words.specs.Spelling.{is_name, is_path}
use Rattle.bt_mapkind.specs.declared.attr.MapAttr.{MapAttr}
use Rattle.bt_mapkind.specs.declared.errno.Errno.{Errno as Error}
use Rattle.bt_mapkind.specs.declared.errno.Errno.TheVariants.{ENOENT, EINVAL, EPERM, EEXIST, EBUSY}
use Rattle.bt_mapkind.specs.declared.request.MapOp.{MapOp}
use Rattle.bt_mapkind.specs.declared.request.MapOp.TheVariants.{SetLink as SetLinkOp}
use Rattle.bt_mapkind.specs.Attributes.{good}
use Rattle.bt_mapkind.specs.Step.{Step, map_step, is_flag}
use Rattle.bt_objects.specs.Ids.{is_among}
use Rattle.bt_objects.specs.declared.make.Make.{Make}
use Rattle.bt_roots.specs.declared.target.Target.{Target}
use Rattle.bt_roots.specs.declared.target.Target.TheVariants.{Map, Prog}
use Rattle.bt_roots.specs.View.{position_of}
use Rattle.bt_roots.specs.Exchange.{prog_at}
use Rattle.host_state.specs.declared.change.Change.{Change}
use Rattle.host_state.specs.declared.change.Change.TheVariants.{Create, Operate, Freeze, Link, Load, Pin, Unpin, Attach, Detach}
use Rattle.host_state.specs.declared.change.Origin.{Origin}
use Rattle.host_state.specs.declared.reply.Reply.{Reply}
use Rattle.host_state.specs.declared.reply.Reply.TheVariants.{Done, Id, Loaded}
use Rattle.bt_objects.specs.ById.{ById, mapped}
use Rattle.host_state.specs.State.{HostMap, HostProg, State}
use Rattle.host_state.specs.Settled.{is_reached, settle, is_live_in, named_in}
use Rattle.host_state.specs.Act.{Outcome, act, new_prog, if_live, live_map, is_console, bars, flag_of, operated_to, unless, with_contents, with_frozen, with_attached, created_with}
use Rattle.host_state.proofs.Tests.{new_map, with_prog, with_pin, without_pin, unless_frozen, has_maps, operated_at, named_fault, linked_at, frozen_at, template_of, attached_to, detached_from}
use Rattle.bt_mapkind.specs.Inner.{holds_ids, form_fault}
use Rattle.host_state.specs.World.{ListsLive, ListsAll, kept_state, makes_in}
use Rattle.host_state.proofs.ByIdLemmas.{same_map, get-mapped, mapped-put, put_there, at_put}
use Rattle.std.specs.Cmp.{tied_itself}
use Rattle.std.specs.Cmp.Lexicographic.{nat_list_cmp_total}

-- the tests of a create, on a state
abbrev pub created_by : State → ℕ → MapAttr → ℕ → List ℕ → List ℕ → Bool → Bool → Result (Option MapAttr) Error → Outcome
created_by s id attr charge name path there fine template =
    if there then Err EEXIST else if not fine then Err EINVAL else created_with s id attr charge name path template

pub pinned_there : (s : State) (path : List ℕ) (target : Target) → map.get (map.insert s.pins path target) path ≡ Some target
pinned_there s path target = map.get-insert nat_list_cmp_total s.pins path target path ∙ ap (λ b. cond b (Some target) (map.get s.pins path)) (ap is_eq (tied_itself nat_list_cmp_total path))

-- ---- what is not listed goes
pub live_listed : (maps progs : List ℕ) (s : State) → ListsAll maps progs s → ListsLive maps progs s
live_listed maps progs s all = record { maps_listed = λ id m there live. all.maps_listed id m there; progs_listed = λ id p there live. all.progs_listed id p there }

pub get-kept : {X : Type 0} (ids : List ℕ) (m : ById X) (q : ℕ) → map.get (map.retain_keys m (is_among ids)) q ≡ cond (is_among ids q) (map.get m q) None
get-kept ids m q = map.get-retain_keys m (is_among ids) q (λ x same. ap (is_among ids) (sym (nat_cmp-IsAntisymmetric q x same)))

nothing : {X : Type 0} (b : Bool) → let none : Option X = None in cond b none none ≡ none
nothing true = refl
nothing false = refl

kept_all : {X : Type 0} (ids : List ℕ) (m : ById X) → ((id : ℕ) (x : X) → map.get m id ≡ Some x → IsTrue (is_among ids id)) → map.retain_keys m (is_among ids) ≡ m
kept_all {X} ids m listed = same_map _ _ (λ q. get-kept ids m q ∙ at q (map.get m q) refl)
  where
    at : (q : ℕ) (o : Option X) → map.get m q ≡ o → cond (is_among ids q) o None ≡ o
    at q None e = nothing (is_among ids q)
    at q (Some x) e = ap (λ b. cond b (Some x) None) (listed q x e)

pub kept_whole : (maps progs : List ℕ) (s : State) → ListsAll maps progs s → kept_state maps progs s ≡ s
kept_whole maps progs s all = λ i. record s { maps = kept_all maps s.maps all.maps_listed i; progs = kept_all progs s.progs all.progs_listed i }

pub or_turned : (a b : Bool) → a || b ≡ true → b || a ≡ true
or_turned true true e = refl
or_turned true false e = refl
or_turned false true e = refl
or_turned false false e = e

-- ---- what a change makes of the maps and the programs
abbrev pub makes_after : Change → ById Make → ById Make
makes_after (Create id attr charge name path template) makes = map.insert makes id (record { attr = attr; charge = charge })
makes_after _ makes = makes

abbrev make_in : ℕ → HostMap → Make
make_in id m = record { attr = m.attr; charge = m.charge }

-- a change comes to a state with these makes, which is settled then; no program goes
record IsOutcome (s t : State) (after : ById Make) : Type 0 where
  middle : State
  settles : t ≡ settle middle
  makes : makes_in middle ≡ after
  progs : (id : ℕ) → is_some (map.get s.progs id) ≡ true → is_some (map.get middle.progs id) ≡ true

abbrev state_or : State → Outcome → State
state_or s (Ok done) = done.0
state_or s (Err errno) = s

live_is : (o : Option HostMap) (m : HostMap) → if_live o ≡ Some m → o ≡ Some m
live_is None m e = cc
live_is (Some n) m e = by_live n.live e
  where
    by_live : (live : Bool) → (if live then Some n else None) ≡ Some m → Some n ≡ Some m
    by_live true e = e
    by_live false e = cc

-- a map that takes the place of another of its make
same_makes : (s : State) (id : ℕ) (m n : HostMap) → map.get s.maps id ≡ Some m → make_in id n ≡ make_in id m → makes_in (record s { maps = map.insert s.maps id n }) ≡ makes_in s
same_makes s id m n there same =
    mapped-put make_in s.maps id (Some n)
    ∙ put_there (mapped make_in s.maps) id (Some (make_in id n)) (get-mapped make_in s.maps id ∙ ap (option_map (make_in id)) there ∙ ap Some (sym same))

operated_outcome : (s t : State) (reply : Reply) (origin : Origin) (id : ℕ) (op : MapOp) → operated_at s id (live_map s id) origin op ≡ Ok (t, reply) → IsOutcome s t (makes_in s)
operated_outcome s t reply origin id op e = by_map (live_map s id) refl e
  where
    by_step : (m : HostMap) → map.get s.maps id ≡ Some m → (step : Step) → operated_to s id m op step ≡ Ok (t, reply) → IsOutcome s t (makes_in s)
    by_step m there (Err errno) e = cc
    by_step m there (Ok changed) e = record {
      middle = with_contents s id m changed.contents;
      settles = sym (ap (state_or s) e);
      makes = same_makes s id m (record m { contents = changed.contents }) there refl;
      progs = λ q there. there;
    }

    by_tests : (m : HostMap) → map.get s.maps id ≡ Some m → (a b h : Bool) (step : Step)
        → (if a then Err EINVAL else if b then Err EPERM else if h then Err EINVAL else operated_to s id m op step) ≡ Ok (t, reply) → IsOutcome s t (makes_in s)
    by_tests m there true b h step e = cc
    by_tests m there false true h step e = cc
    by_tests m there false false true step e = cc
    by_tests m there false false false step e = by_step m there step e

    by_map : (o : Option HostMap) → live_map s id ≡ o → operated_at s id o origin op ≡ Ok (t, reply) → IsOutcome s t (makes_in s)
    by_map None is e = cc
    by_map (Some m) is e =
        by_tests m (live_is (map.get s.maps id) m is) (not (is_flag (flag_of op))) (is_console origin && m.frozen) (bars origin (holds_ids m.attr.kind) op)
        (map_step m.attr m.contents op) e

linked_outcome : (s t : State) (reply : Reply) (id : ℕ) (key : List ℕ) (named flag : ℕ) → linked_at s id (live_map s id) key named flag ≡ Ok (t, reply) → IsOutcome s t (makes_in s)
linked_outcome s t reply id key named flag e = by_map (live_map s id) refl e
  where
    by_step : (m : HostMap) → map.get s.maps id ≡ Some m → (step : Step) → operated_to s id m (SetLinkOp key named flag) step ≡ Ok (t, reply) → IsOutcome s t (makes_in s)
    by_step m there (Err errno) e = cc
    by_step m there (Ok changed) e = record {
      middle = with_contents s id m changed.contents;
      settles = sym (ap (state_or s) e);
      makes = same_makes s id m (record m { contents = changed.contents }) there refl;
      progs = λ q there. there;
    }

    by_faults : (m : HostMap) → map.get s.maps id ≡ Some m → (a b : Option Error) (step : Step) → unless a (unless b (operated_to s id m (SetLinkOp key named flag) step)) ≡ Ok (t, reply) → IsOutcome s t (makes_in s)
    by_faults m there (Some errno) b step e = cc
    by_faults m there None (Some errno) step e = cc
    by_faults m there None None step e = by_step m there step e

    by_tests : (m : HostMap) → map.get s.maps id ≡ Some m → (a b : Bool) (x y : Option Error) (step : Step)
        → (if a then Err EINVAL else if b then Err EPERM else unless x (unless y (operated_to s id m (SetLinkOp key named flag) step))) ≡ Ok (t, reply) → IsOutcome s t (makes_in s)
    by_tests m there true b x y step e = cc
    by_tests m there false true x y step e = cc
    by_tests m there false false x y step e = by_faults m there x y step e

    by_map : (o : Option HostMap) → live_map s id ≡ o → linked_at s id o key named flag ≡ Ok (t, reply) → IsOutcome s t (makes_in s)
    by_map None is e = cc
    by_map (Some m) is e =
        by_tests m (live_is (map.get s.maps id) m is) (not (is_flag flag)) m.frozen (form_fault m.attr key flag) (named_fault s m.template (named_in m.attr.kind named))
        (map_step m.attr m.contents (SetLinkOp key named flag)) e

abbrev pub pin_by : State → Target → List ℕ → Bool → Bool → Bool → Outcome
pin_by s target path live fine there =
    if not live then Err ENOENT else if not fine then Err EINVAL else if there then Err EEXIST else Ok (settle (with_pin s path target), Done)

abbrev pub unpin_by : State → List ℕ → Bool → Outcome
unpin_by s path there = if there then Ok (settle (without_pin s path), Done) else Err ENOENT

pinned_outcome : (s t : State) (reply : Reply) (target : Target) (path : List ℕ) (live fine there : Bool) → pin_by s target path live fine there ≡ Ok (t, reply) → IsOutcome s t (makes_in s)
pinned_outcome s t reply target path false fine there e = cc
pinned_outcome s t reply target path true false there e = cc
pinned_outcome s t reply target path true true true e = cc
pinned_outcome s t reply target path true true false e = record { middle = with_pin s path target; settles = sym (ap (state_or s) e); makes = refl; progs = λ q there. there }

unpinned_outcome : (s t : State) (reply : Reply) (path : List ℕ) (there : Bool) → unpin_by s path there ≡ Ok (t, reply) → IsOutcome s t (makes_in s)
unpinned_outcome s t reply path false e = cc
unpinned_outcome s t reply path true e = record { middle = without_pin s path; settles = sym (ap (state_or s) e); makes = refl; progs = λ q there. there }

abbrev pub attach_by : State → ℕ → Bool → Bool → Option ℕ → Outcome
attach_by s prog overwrite live position = if not live then Err ENOENT else attached_to s prog overwrite position

abbrev pub put_prog_by : State → ℕ → ℕ → Bool → Outcome
put_prog_by s position prog busy = if busy then Err EBUSY else Ok (settle (with_attached s position (Some prog)), Done)

abbrev pub take_prog_by : State → ℕ → Bool → Outcome
take_prog_by s position there = if there then Ok (settle (with_attached s position None), Done) else Err ENOENT

put_prog_outcome : (s t : State) (reply : Reply) (position prog : ℕ) (busy : Bool) → put_prog_by s position prog busy ≡ Ok (t, reply) → IsOutcome s t (makes_in s)
put_prog_outcome s t reply position prog true e = cc
put_prog_outcome s t reply position prog false e = record { middle = with_attached s position (Some prog); settles = sym (ap (state_or s) e); makes = refl; progs = λ q there. there }

take_prog_outcome : (s t : State) (reply : Reply) (position : ℕ) (there : Bool) → take_prog_by s position there ≡ Ok (t, reply) → IsOutcome s t (makes_in s)
take_prog_outcome s t reply position false e = cc
take_prog_outcome s t reply position true e = record { middle = with_attached s position None; settles = sym (ap (state_or s) e); makes = refl; progs = λ q there. there }

attached_outcome : (s t : State) (reply : Reply) (prog : ℕ) (overwrite live : Bool) (position : Option ℕ) → attach_by s prog overwrite live position ≡ Ok (t, reply) → IsOutcome s t (makes_in s)
attached_outcome s t reply prog overwrite false position e = cc
attached_outcome s t reply prog overwrite true None e = cc
attached_outcome s t reply prog overwrite true (Some position) e = put_prog_outcome s t reply position prog (is_some (prog_at s.devices position) && not overwrite) e

detached_outcome : (s t : State) (reply : Reply) (position : Option ℕ) → detached_from s position ≡ Ok (t, reply) → IsOutcome s t (makes_in s)
detached_outcome s t reply None e = cc
detached_outcome s t reply (Some position) e = take_prog_outcome s t reply position (is_some (prog_at s.devices position)) e

frozen_outcome : (s t : State) (reply : Reply) (id : ℕ) → frozen_at s id (live_map s id) ≡ Ok (t, reply) → IsOutcome s t (makes_in s)
frozen_outcome s t reply id e = by_map (live_map s id) refl e
  where
    by_test : (m : HostMap) → map.get s.maps id ≡ Some m → (b : Bool) → unless_frozen b (settle (with_frozen s id m true)) ≡ Ok (t, reply) → IsOutcome s t (makes_in s)
    by_test m there true e = cc
    by_test m there false e = record {
      middle = with_frozen s id m true;
      settles = sym (ap (state_or s) e);
      makes = same_makes s id m (record m { frozen = true }) there refl;
      progs = λ q there. there;
    }

    by_map : (o : Option HostMap) → live_map s id ≡ o → frozen_at s id o ≡ Ok (t, reply) → IsOutcome s t (makes_in s)
    by_map None is e = cc
    by_map (Some m) is e = by_test m (live_is (map.get s.maps id) m is) m.frozen e

abbrev pub created_path : State → ℕ → HostMap → List ℕ → Bool → Bool → Outcome
created_path s id m path bad there =
    if bad then Err EINVAL else if there then Err EEXIST else
    Ok (settle (record s { maps = map.insert s.maps id m; pins = map.insert s.pins path (Map id) }), Id id)

created_outcome : (s t : State) (reply : Reply) (id : ℕ) (attr : MapAttr) (charge : ℕ) (name path : List ℕ) (template : Option ℕ) (there fine : Bool) (found : Result (Option MapAttr) Error)
    → created_by s id attr charge name path there fine found ≡ Ok (t, reply) → IsOutcome s t (map.insert (makes_in s) id (record { attr = attr; charge = charge }))
created_outcome s t reply id attr charge name path template true fine found e = cc
created_outcome s t reply id attr charge name path template false false found e = cc
created_outcome s t reply id attr charge name path template false true (Err errno) e = cc
created_outcome s t reply id attr charge name path template false true (Ok agreed) e = by_tests (not (is_path path)) (map.contains_key s.pins path) e
  where
    by_tests : (a b : Bool) → created_path s id (new_map attr charge name agreed) path a b ≡ Ok (t, reply) → IsOutcome s t (map.insert (makes_in s) id (record { attr = attr; charge = charge }))
    by_tests true b e = cc
    by_tests false true e = cc
    by_tests false false e = record {
      middle = record s { maps = map.insert s.maps id (new_map attr charge name agreed); pins = map.insert s.pins path (Map id) };
      settles = sym (ap (state_or s) e);
      makes = mapped-put make_in s.maps id (Some (new_map attr charge name agreed));
      progs = λ q there. there;
    }

abbrev pub load_by : State → ℕ → HostProg → List ℕ → Bool → Bool → Bool → Bool → Outcome
load_by s id prog path there live fine pinned =
    if there then Err EEXIST else if not live then Err ENOENT else if not fine then Err EINVAL else if pinned then Err EEXIST else
    Ok (settle (with_prog s id prog path), Loaded id)

loaded_outcome : (s t : State) (reply : Reply) (id : ℕ) (prog : HostProg) (path : List ℕ) (there live fine pinned : Bool) → load_by s id prog path there live fine pinned ≡ Ok (t, reply) → IsOutcome s t (makes_in s)
loaded_outcome s t reply id prog path true live fine pinned e = cc
loaded_outcome s t reply id prog path false false fine pinned e = cc
loaded_outcome s t reply id prog path false true false pinned e = cc
loaded_outcome s t reply id prog path false true true true e = cc
loaded_outcome s t reply id prog path false true true false e = record {
  middle = with_prog s id prog path;
  settles = sym (ap (state_or s) e);
  makes = refl;
  progs = λ q there. at_put s.progs id q (Some prog) (λ o. is_some o ≡ true) (λ is. refl) there;
}

outcome : (s t : State) (change : Change) (reply : Reply) → act s change ≡ Ok (t, reply) → IsOutcome s t (makes_after change (makes_in s))
unfolding act
outcome s t (Create id attr charge name path template) reply e =
    created_outcome s t reply id attr charge name path template (map.contains_key s.maps id) (good attr && is_name name) (template_of s attr.kind template) e
outcome s t (Operate origin id op) reply e = operated_outcome s t reply origin id op e
outcome s t (Freeze id) reply e = frozen_outcome s t reply id e
outcome s t (Link id key named flag) reply e = linked_outcome s t reply id key named flag e
outcome s t (Load id code name path) reply e =
    loaded_outcome s t reply id (new_prog code name) path (map.contains_key s.progs id) (has_maps s code) (is_path path) (map.contains_key s.pins path) e
outcome s t (Pin target path) reply e = pinned_outcome s t reply target path (is_live_in s target) (is_path path) (map.contains_key s.pins path) e
outcome s t (Unpin path) reply e = unpinned_outcome s t reply path (map.contains_key s.pins path) e
outcome s t (Attach prog device overwrite) reply e = attached_outcome s t reply prog overwrite (is_live_in s (Prog prog)) (position_of s.devices device) e
outcome s t (Detach device) reply e = detached_outcome s t reply (position_of s.devices device) e

-- settling leaves what maps were made with
settled_makes : (s : State) → makes_in (settle s) ≡ makes_in s
unfolding settle
settled_makes s =
    let f : ℕ → HostMap → HostMap = λ id m. record m { live = m.live && is_reached s (Map id) } in
    same_map _ _ (λ q.
    get-mapped make_in (mapped f s.maps) q ∙ ap (option_map (make_in q)) (get-mapped f s.maps q) ∙ both q f (map.get s.maps q) (λ m. refl) ∙ sym (get-mapped make_in s.maps q))
  where
    both : (q : ℕ) (f : ℕ → HostMap → HostMap) (o : Option HostMap) → ((m : HostMap) → make_in q (f q m) ≡ make_in q m) → option_map (make_in q) (option_map (f q) o) ≡ option_map (make_in q) o
    both q f None same = refl
    both q f (Some m) same = ap Some (same m)

pub made_by : (s t : State) (change : Change) (reply : Reply) → act s change ≡ Ok (t, reply) → makes_in t ≡ makes_after change (makes_in s)
made_by s t change reply e = let o = outcome s t change reply e in ap makes_in o.settles ∙ settled_makes o.middle ∙ o.makes

-- a map that was there is there
there_after : (change : Change) (makes : ById Make) (q : ℕ) → is_some (map.get makes q) ≡ true → is_some (map.get (makes_after change makes) q) ≡ true
there_after (Create id attr charge name path template) makes q there =
    at_put makes id q (Some (record { attr = attr; charge = charge })) (λ o. is_some o ≡ true) (λ is. refl) there
there_after _ makes q there = there

is_some-map : {X Y : Type 0} (f : X → Y) (o : Option X) → is_some (option_map f o) ≡ is_some o
is_some-map f None = refl
is_some-map f (Some x) = refl

some_of : {X : Type 0} (o : Option X) → is_some o ≡ true → (x : X) × (o ≡ Some x)
some_of None e = cc
some_of (Some x) e = (x, refl)

progs_settled : (s : State) (q : ℕ) → map.get (settle s).progs q ≡ option_map (λ (p : HostProg). record p { live = p.live && is_reached s (Prog q) }) (map.get s.progs q)
unfolding settle
progs_settled s q = get-mapped (λ id (p : HostProg). record p { live = p.live && is_reached s (Prog id) }) s.progs q

pub lists_back : (maps progs : List ℕ) (s t : State) (change : Change) (reply : Reply) → act s change ≡ Ok (t, reply) → ListsAll maps progs t → ListsAll maps progs s
lists_back maps progs s t change reply e all = record {
  maps_listed = λ q m there.
      let in_s : is_some (map.get (makes_in s) q) ≡ true = ap is_some (get-mapped make_in s.maps q) ∙ is_some-map (make_in q) (map.get s.maps q) ∙ ap is_some there in
      let in_t : is_some (map.get t.maps q) ≡ true =
      sym (is_some-map (make_in q) (map.get t.maps q)) ∙ sym (ap is_some (get-mapped make_in t.maps q)) ∙ ap (λ (ms : ById Make). is_some (map.get ms q)) (made_by s t change reply e)
      ∙ there_after change (makes_in s) q in_s in
      let found = some_of (map.get t.maps q) in_t in all.maps_listed q found.0 found.1;
  progs_listed = λ q p there.
      let o = outcome s t change reply e in
      let in_t : is_some (map.get t.progs q) ≡ true =
      ap (λ (x : State). is_some (map.get x.progs q)) o.settles ∙ ap is_some (progs_settled o.middle q)
      ∙ is_some-map (λ (p : HostProg). record p { live = p.live && is_reached o.middle (Prog q) }) (map.get o.middle.progs q) ∙ o.progs q (ap is_some there) in
      let found = some_of (map.get t.progs q) in_t in all.progs_listed q found.0 found.1;
}
