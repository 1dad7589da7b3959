-- A new program is what `act` says, its undoing joins the two states, and the world stays sound.
use Rattle.std.proofs.Common.{◌≡◌, ℕ, zero, suc, Bool, true, false, not, Contains, IsTrue, List, [], ◌∷◌, Option, Some, None, Ok, Err, cond, is_some, inl, inr, refl, sym, ap, subst, ◌∙◌, arith}
use Rattle.std.specs.Prelude.{◌⊎◌, if◌then◌else◌}
use Rattle.std.specs.List.{list_all}
use Rattle.std.specs.FinMap as map
use Rattle.std.specs.FinSet as set
use Rattle.std.specs.Ordering.{is_eq, nat_cmp, eq_by_cmp}
use Rattle.std.specs.Cmp.{tied_itself}
use Rattle.std.specs.Cmp.Lexicographic.{slice_cmp, nat_list_cmp_total}
use Rattle.host_words.specs.Spelling.{is_path}
use Rattle.bt_mapkind.specs.declared.attr.MapAttr.{MapAttr}
use Rattle.bt_mapkind.specs.declared.errno.Errno.{Errno as Error}
use Rattle.bt_mapkind.specs.declared.errno.Errno.TheVariants.{ENOENT, EINVAL, EEXIST}
use Rattle.bt_mapkind.specs.Seen.{Seen}
use Rattle.bt_mapkind.proofs.Stays.{both_true}
use Rattle.bt_verify.specs.Verified.{Checked}
use Rattle.bt_objects.specs.Boxes.{ById}
use Rattle.bt_roots.specs.declared.target.Target.{Target}
use Rattle.bt_roots.specs.declared.target.Target.TheVariants.{Map, Prog}
use Rattle.bt_roots.specs.declared.back.RootBack.{RootBack}
use Rattle.bt_roots.specs.declared.back.RootBack.TheVariants.{Pin}
use Rattle.bt_roots.specs.View.{RootsView}
use Rattle.bt_roots.specs.Exchange.{exchange_fits, exchanged}
use Rattle.bt_roots.specs.Reachable.{IsRoot, IsPinned}
use Rattle.bt_roots.proofs.ExchangeLemmas.{room_made, room_kept}
use Rattle.host_state.specs.declared.change.Change.TheVariants.{Load}
use Rattle.host_state.specs.declared.reply.Reply.TheVariants.{Loaded}
use Rattle.host_state.specs.declared.reply.Refusal.{Refusal}
use Rattle.host_state.specs.declared.reply.Refusal.TheVariants.{Errno, NoMemory}
use Rattle.host_state.specs.declared.retirement.Retirement.{Retirement}
use Rattle.host_undoing.specs.declared.undoing.Part.{Part}
use Rattle.host_undoing.specs.declared.undoing.Part.TheVariants.{Program}
use Rattle.host_undoing.specs.declared.undoing.Undoing.{Undoing}
use Rattle.host_state.specs.State.{HostProg, State}
use Rattle.host_state.specs.Settled.{maps_named, named_in, links_of, is_reached, is_live_prog, is_live_in, IsSettled}
use Rattle.host_state.specs.Act.{act, new_prog}
use Rattle.host_state.proofs.Tests.{with_prog, has_maps}
use Rattle.host_state.specs.World.{Ready}
use Rattle.host_state.specs.Hosts.{Entries, prog_at, held, progs_of, state_of, ready_of, view_of, PutsProg, IsSound, live_target_in}
use Rattle.host_state.proofs.HostLemmas.{room_in, get-progs_of, progs_put, same_hosts, live_target}
use Rattle.host_pins.specs.Made.{load_fault}
use Rattle.host_pins.proofs.CreatedLemmas.{ProgPinnedIn, IsNewPin, no_pin}
use Rattle.host_undoing.proofs.Parts.{IsApplied, PartJoins, LivesInOne}
use Rattle.host_undoing.specs.Answers.{IsReason, IsUnchanged, Retires}
use Rattle.host_undoing.specs.Exchange.{Joins, part_turned, part_back, back_of}
use Rattle.host_state.proofs.ByIdLemmas.{same_some, is_itself, at_put, get-put_same, put_twice, put_there}
use Rattle.host_state.proofs.RoomLemmas.{contains-room, room_more}
use Rattle.host_undoing.proofs.RetiringLemmas.{plain_joins, nothing_retires}
use Rattle.host_state.proofs.RetireLemmas.{second_lives}
use Rattle.host_state.proofs.LinkedLemmas.{IsMapLink, IsProgLink, from_each, from_links, to_links_map, to_links_prog, root_reached, next_reached, all_reached, next_live, root_live}
use Rattle.host_state.proofs.SettleLemmas.{settle_settled, pinned_still}
use Rattle.host_pins.proofs.PresenceLemmas.{unpinned}
use Rattle.host_state.proofs.Lasting.{pinned_there, load_by}
use Rattle.host_undoing.proofs.ReturnedLemmas.{same_built}

-- ---- a settled state with one more program
all_of : {X : Type 0} (p : X → Bool) (xs : List X) → list_all p xs ≡ true → (x : X) → Contains xs x → p x ≡ true
all_of p [] h x (k, lt, e) = absurd (omega (arith, lt))
all_of p (z ∷ xs) h x (zero, lt, e) = ap p (sym e) ∙ (both_true (p z) (list_all p xs) h).0
all_of p (z ∷ xs) h x (suc k, lt, e) = all_of p xs (both_true (p z) (list_all p xs) h).1 x (k, omega (arith, lt), e)

named_live : (s : State) (prog : HostProg) → has_maps s prog.code ≡ true → (named : ℕ) → Contains (maps_named prog) named → IsTrue (is_live_in s (Map named))
named_live s prog maps named has =
    let m = from_each (λ (m : ℕ × MapAttr). m.0) prog.code.maps named has in
    subst (λ k. IsTrue (is_live_in s (Map k))) (sym m.2) (all_of (λ (m : ℕ × MapAttr). is_live_in s (Map m.0)) prog.code.maps maps m.0 m.1)

module _ (s : State) (id : ℕ) (prog : HostProg) (path : List ℕ) (none : map.get s.progs id ≡ None) (free : map.get s.pins path ≡ None) (maps : has_maps s prog.code ≡ true)
    (is_live : prog.live ≡ true) (h : IsSettled s) where
  here : is_live_prog (map.get (map.insert s.progs id prog) id) ≡ true
  here = ap is_live_prog (get-put_same s.progs id (Some prog)) ∙ is_live

  -- what was live is live
  live_still : (t : Target) → IsTrue (is_live_in s t) → IsTrue (is_live_in (with_prog s id prog path) t)
  live_still (Map q) live = live
  live_still (Prog q) live = at_put s.progs id q (Some prog) (λ o. is_live_prog o ≡ true) (λ is. cc (sym (ap is_live_prog (ap (map.get s.progs) is ∙ none)) ∙ live)) live

  first : (t : Target) → IsRoot (map.insert s.pins path (Prog id)) s.devices t → IsTrue (is_live_in (with_prog s id prog path) t)
  first t (inr a) = live_still t (root_live s h t (inr a))
  first t (inl p) = by (eq_by_cmp (slice_cmp nat_cmp) p.0 path) (sym (map.get-insert nat_list_cmp_total s.pins path (Prog id) p.0) ∙ p.1)
    where
      by : (b : Bool) → cond b (Some (Prog id)) (map.get s.pins p.0) ≡ Some t → IsTrue (is_live_in (with_prog s id prog path) t)
      by true e = subst (λ x. IsTrue (is_live_in (with_prog s id prog path) x)) (same_some e) here
      by false e = live_still t (root_live s h t (inl (p.0, e)))

  -- what a program that is live there links to
  from_prog : (to : Target) (q : ℕ) (p : HostProg) (named : ℕ) → map.get (map.insert s.progs id prog) q ≡ Some p → IsTrue p.live → Contains (maps_named p) named → to ≡ Map named → IsTrue (is_live_in s to)
  from_prog to q p named found live has is =
      subst (λ x. IsTrue (is_live_in s x)) (sym is)
      (at_put s.progs id q (Some prog) (λ o. o ≡ Some p → IsTrue (is_live_in s (Map named)))
      (λ at found. named_live s prog maps named (subst (λ (x : HostProg). Contains (maps_named x) named) (sym (same_some found)) has))
      (λ found. next_live s h (Prog q) (Map named) (ap is_live_prog found ∙ live) (to_links_prog s q p named found has)) found)

  next : (from to : Target) → IsTrue (is_live_in (with_prog s id prog path) from) → Contains (links_of (with_prog s id prog path)) (from, to) → IsTrue (is_live_in (with_prog s id prog path) to)
  next from to live there = live_still to (by (from_links (with_prog s id prog path) (from, to) there))
    where
      by : IsProgLink (with_prog s id prog path) (from, to) ⊎ IsMapLink (with_prog s id prog path) (from, to) → IsTrue (is_live_in s to)
      by (inl l) =
          from_prog to l.id l.prog l.named l.there (sym (ap is_live_prog l.there) ∙ subst (λ x. IsTrue (is_live_in (with_prog s id prog path) x)) (ap (λ (x : Target × Target). x.0) l.is) live) l.has
          (ap (λ (x : Target × Target). x.1) l.is)
      by (inr l) =
          subst (λ x. IsTrue (is_live_in s x)) (sym (ap (λ (x : Target × Target). x.1) l.is))
          (next_live s h (Map l.id) (named_in l.host.attr.kind l.named) (subst (λ x. IsTrue (is_live_in (with_prog s id prog path) x)) (ap (λ (x : Target × Target). x.0) l.is) live)
          (to_links_map s l.id l.host l.named l.there l.has))

  -- what was reached is reached
  old_link : (from to : Target) → Contains (links_of s) (from, to) → Contains (links_of (with_prog s id prog path)) (from, to)
  old_link from to there = by (from_links s (from, to) there)
    where
      by : IsProgLink s (from, to) ⊎ IsMapLink s (from, to) → Contains (links_of (with_prog s id prog path)) (from, to)
      by (inl l) =
          subst (Contains (links_of (with_prog s id prog path))) (sym l.is)
          (to_links_prog (with_prog s id prog path) l.id l.prog l.named
          (at_put s.progs id l.id (Some prog) (λ o. o ≡ Some l.prog) (λ is. cc (sym (ap (map.get s.progs) is ∙ none) ∙ l.there)) l.there) l.has)
      by (inr l) = subst (Contains (links_of (with_prog s id prog path))) (sym l.is) (to_links_map (with_prog s id prog path) l.id l.host l.named l.there l.has)

  more : (x : Target) → IsRoot s.pins s.devices x → IsRoot (map.insert s.pins path (Prog id)) s.devices x
  more x (inl p) = inl (pinned_still s path (Prog id) free x p)
  more x (inr a) = inr a

  still : (t : Target) → IsTrue (is_reached s t) → IsTrue (is_reached (with_prog s id prog path) t)
  still t r =
      all_reached s (λ t. IsTrue (is_reached (with_prog s id prog path) t)) (λ t root. root_reached (with_prog s id prog path) t (more t root))
      (λ from to reached there. next_reached (with_prog s id prog path) from to reached (old_link from to there)) t r

  is_pinned : IsPinned (map.insert s.pins path (Prog id)) (Prog id)
  is_pinned = (path, map.get-insert nat_list_cmp_total s.pins path (Prog id) path ∙ ap (λ b. cond b (Some (Prog id)) (map.get s.pins path)) (ap is_eq (tied_itself nat_list_cmp_total path)))

  pub settled_loaded : IsSettled (with_prog s id prog path)
  settled_loaded = record {
    maps = λ q n at live. still (Map q) (h.maps q n at live);
    progs = λ q n.
        at_put s.progs id q (Some prog) (λ o. o ≡ Some n → IsTrue n.live → IsTrue (is_reached (with_prog s id prog path) (Prog q)))
        (λ is at live. subst (λ k. IsTrue (is_reached (with_prog s id prog path) (Prog k))) (sym is) (root_reached (with_prog s id prog path) (Prog id) (inl is_pinned)))
        (λ at live. still (Prog q) (h.progs q n at live));
    only = all_reached (with_prog s id prog path) (λ t. IsTrue (is_live_in (with_prog s id prog path) t)) first next;
  }

-- ---- the exchange
module _ (ready : Ready) (s : State) (id : ℕ) (prog : HostProg) (path : List ℕ) (absent : map.get s.progs id ≡ None) (free : map.get s.pins path ≡ None)
    (waits : set.contains ready.progs id ≡ true) (room : set.contains ready.room path ≡ true) where
  abbrev after : State
  after = with_prog s id prog path

  abbrev back : Part
  back = Program id None (Pin path None)

  abbrev forth : Part
  forth = Program id (Some prog) (Pin path (Some (Prog id)))

  there : map.get (map.insert s.progs id prog) id ≡ Some prog
  there = get-put_same s.progs id (Some prog)

  back_state : part_turned after back ≡ s
  unfolding part_turned exchanged
  back_state = λ i. record s {
    progs = (put_twice s.progs id (Some prog) None ∙ put_there s.progs id None absent) i;
    pins = unpinned (record { pins = s.pins; devices = s.devices; room = set.empty }) path (Prog id) free i;
  }

  back_face : part_back after back ≡ forth
  unfolding part_back exchanged
  back_face = λ i. Program id (there i) (Pin path (pinned_there s path (Prog id) i))

  forth_state : part_turned s forth ≡ after
  unfolding part_turned exchanged
  forth_state = refl

  forth_face : part_back s forth ≡ back
  unfolding part_back exchanged
  forth_face = λ i. Program id (absent i) (Pin path (free i))

  pub program_joins : PartJoins ready s (with_prog s id prog path) (Program id None (Pin path None)) (Program id (Some prog) (Pin path (Some (Prog id))))
  unfolding exchange_fits
  program_joins = record {
    back_place = ((prog, there), room);
    back_state = back_state;
    back_face = back_face;
    forth_place = ((absent, waits), room);
    forth_state = forth_state;
    forth_face = forth_face;
  }

-- ---- what `act` says of a load
acts_load : (s : State) (id : ℕ) (code : Checked) (name path : List ℕ)
    → act s (Load id code name path) ≡ load_by s id (new_prog code name) path (map.contains_key s.progs id) (has_maps s code) (is_path path) (map.contains_key s.pins path)
unfolding act
acts_load s id code name path = refl

pub record MayLoad (entries : Entries) (id : ℕ) (code : Checked) : Type 0 where
  pub absent : held (prog_at entries id) ≡ None
  pub maps : list_all (λ (m : ℕ × MapAttr). live_target_in entries (Map m.0)) code.maps ≡ true

none_of : {X : Type 0} (o : Option X) → is_some o ≡ false → o ≡ None
none_of None e = refl
none_of (Some x) e = cc

pub may_load : (entries : Entries) (id : ℕ) (code : Checked) → load_fault entries id code ≡ None → MayLoad entries id code
may_load entries id code e = by (is_some (held (prog_at entries id))) (list_all (λ (m : ℕ × MapAttr). live_target_in entries (Map m.0)) code.maps) refl refl e
  where
    by : (there live : Bool) → is_some (held (prog_at entries id)) ≡ there → list_all (λ (m : ℕ × MapAttr). live_target_in entries (Map m.0)) code.maps ≡ live
        → (if there then Some EEXIST else if not live then Some ENOENT else None) ≡ None → MayLoad entries id code
    by true live t l e = cc
    by false false t l e = cc
    by false true t l e = record { absent = none_of (held (prog_at entries id)) t; maps = l }

maps_live : (boxes : ById Seen) (entries : Entries) (roots : RootsView) (code : Checked) → IsSound boxes entries roots
    → list_all (λ (m : ℕ × MapAttr). live_target_in entries (Map m.0)) code.maps ≡ has_maps (state_of boxes entries roots) code
maps_live boxes entries roots code sound = λ i. list_all (λ (m : ℕ × MapAttr). live_target boxes entries roots (Map m.0) sound.built.same_ids i) code.maps

-- nothing has changed
pub unchanged : (boxes : ById Seen) (entries : Entries) (roots : RootsView) (work : ℕ) → IsUnchanged (view_of boxes entries roots work) (view_of boxes entries roots work)
unchanged boxes entries roots work = record { state = refl; boxes = record { makes = refl; progs = λ q there. there; room = λ path there. there } }

pub load_faulty : (boxes : ById Seen) (entries : Entries) (roots : RootsView) (work : ℕ) (id : ℕ) (code : Checked) (name path : List ℕ) (errno : Error) → IsSound boxes entries roots
    → load_fault entries id code ≡ Some errno
    → IsReason (view_of boxes entries roots work) (Load id code name path) (Errno errno) × IsUnchanged (view_of boxes entries roots work) (view_of boxes entries roots work)
load_faulty boxes entries roots work id code name path errno sound e =
    let s = state_of boxes entries roots in (
      (
        tt,
        acts_load s id code name path
            ∙ (λ i. load_by s id (new_prog code name) path (is_some (get-progs_of entries id i)) (sym (maps_live boxes entries roots code sound) i) (is_path path) (map.contains_key s.pins path))
            ∙ by (is_some (held (prog_at entries id))) (list_all (λ (m : ℕ × MapAttr). live_target_in entries (Map m.0)) code.maps) (is_path path) (map.contains_key s.pins path) e,
      ),
      unchanged boxes entries roots work,
    )
  where
    by : (there live fine pinned : Bool) → (if there then Some EEXIST else if not live then Some ENOENT else None) ≡ Some errno
        → load_by (state_of boxes entries roots) id (new_prog code name) path there live fine pinned ≡ Err errno
    by true live fine pinned e = ap Err (same_some e)
    by false false fine pinned e = ap Err (same_some e)
    by false true fine pinned e = cc

-- ---- room that is made
pub twice_put : (old middle new : Entries) (id : ℕ) (x y : Option HostProg) → PutsProg old middle id (Some x) → PutsProg middle new id (Some y) → PutsProg old new id (Some y)
twice_put old middle new id x y one two =
    (λ q. two.0 q ∙ ap (λ o. cond (eq_by_cmp nat_cmp id q) (Some y) o) (one.0 q) ∙ twice (eq_by_cmp nat_cmp id q) (prog_at old q), two.1 ∙ one.1)
  where
    twice : (b : Bool) (o : Option (Option HostProg)) → cond b (Some y) (cond b (Some x) o) ≡ cond b (Some y) o
    twice true o = refl
    twice false o = refl

module _ (boxes : ById Seen) (old middle : Entries) (roots : RootsView) (id : ℕ) (none : held (prog_at old id) ≡ None) (puts : PutsProg old middle id (Some None)) where
  room_state : state_of boxes middle roots ≡ state_of boxes old roots
  room_state = λ i. record (state_of boxes old roots) {
    maps = same_hosts boxes old middle puts.1 i;
    progs = (progs_put old middle id None puts ∙ put_there (progs_of old) id None (get-progs_of old id ∙ none)) i;
  }

  pub room_unchanged : (work : ℕ) → IsUnchanged (view_of boxes old roots work) (view_of boxes middle roots work)
  room_unchanged work = record { state = room_state; boxes = record { makes = refl; progs = room_more old middle id None puts; room = λ path there. there } }

  pub room_sound : IsSound boxes old roots → IsSound boxes middle roots
  room_sound sound = record { built = same_built boxes old middle puts.1 sound.built; settled = subst IsSettled (sym room_state) sound.settled }

-- ---- a load that is done
module _ (boxes : ById Seen) (old new : Entries) (roots left : RootsView) (work : ℕ) (id : ℕ) (code : Checked) (name path : List ℕ) (pin : RootBack) (sound : IsSound boxes old roots)
    (may : MayLoad old id code) (p : IsNewPin roots path (Prog id) pin left) (puts : PutsProg old new id (Some (Some (new_prog code name))))
    (retired : Retirement) (nothing : retired.targets ≡ []) (live : retired.live ≡ true) where
  abbrev was : State
  was = state_of boxes old roots

  abbrev prog : HostProg
  prog = new_prog code name

  absent : map.get (progs_of old) id ≡ None
  absent = get-progs_of old id ∙ may.absent

  maps_there : has_maps was code ≡ true
  maps_there = sym (maps_live boxes old roots code sound) ∙ may.maps

  now_is : state_of boxes new left ≡ with_prog was id prog path
  now_is = λ i. record {
    maps = same_hosts boxes old new puts.1 i;
    progs = progs_put old new id (Some prog) puts i;
    pins = ap (λ (r : RootsView). r.pins) p.left_is i;
    devices = ap (λ (r : RootsView). r.devices) p.left_is i;
  }

  settled_now : IsSettled (with_prog was id prog path)
  settled_now = settled_loaded was id prog path absent p.free maps_there refl sound.settled

  acts : act was (Load id code name path) ≡ Ok (state_of boxes new left, Loaded id)
  acts =
      acts_load was id code name path
      ∙ (λ i. load_by was id prog path (is_some (absent i)) (maps_there i) (p.good i) (is_some (p.free i)))
      ∙ ap (λ s. Ok (s, Loaded id)) (settle_settled (with_prog was id prog path) settled_now ∙ sym now_is)

  abbrev ready : Ready
  ready = ready_of boxes new left

  waits : set.contains (room_in new) id ≡ true
  waits = contains-room new id ∙ ap is_some (puts.0 id ∙ ap (λ b. cond b (Some (Some prog)) (prog_at old id)) (is_itself id))

  has_room : set.contains left.room path ≡ true
  has_room = ap (λ (r : RootsView). set.contains r.room path) p.left_is ∙ room_made roots.room path

  abbrev undoing : Undoing
  undoing = record { part = Program id None pin; retired = retired }

  joined : Joins ready was (state_of boxes new left) undoing (back_of (state_of boxes new left) undoing)
  joined =
      subst (λ (x : State × RootBack). Joins ready was x.0 (record { part = Program id None x.1; retired = retired }) (back_of x.0 (record { part = Program id None x.1; retired = retired })))
      (λ i. (sym now_is i, sym p.pin_is i))
      (plain_joins ready was (with_prog was id prog path) (Program id None (Pin path None)) (Program id (Some prog) (Pin path (Some (Prog id)))) retired
      (program_joins ready was id prog path absent p.free waits has_room) nothing live sound.settled settled_now
      (λ t e. subst (LivesInOne was (with_prog was id prog path)) (same_some e) (second_lives (is_live_in was (Prog id)) (is_live_in (with_prog was id prog path) (Prog id)) (ap is_live_prog (get-put_same was.progs id (Some prog))))))

  -- the new program is live, and the others as before
  still_live : (t : Target) → IsTrue (is_live_in was t) → IsTrue (is_live_in (with_prog was id prog path) t)
  still_live (Map q) live = live
  still_live (Prog q) live = at_put was.progs id q (Some prog) (λ o. is_live_prog o ≡ true) (λ e. refl) live

  pub load_applied : IsApplied (view_of boxes old roots work) (Load id code name path) (Loaded id) (record { part = Program id None pin; retired = retired }) (view_of boxes new left work)
  load_applied = record {
    acts = acts;
    joins = joined;
    own = (pin, refl);
    retires = subst (λ s. Retires was s retired) (sym now_is) (nothing_retires was (with_prog was id prog path) retired nothing live still_live);
    boxes = record {
      makes = refl;
      progs = room_more old new id (Some prog) puts;
      room = λ q there. ap (λ (r : RootsView). set.contains r.room q) p.left_is ∙ room_kept roots.room path q there;
    };
  }

  pub load_sound : IsSound boxes new left
  load_sound = record { built = same_built boxes old new puts.1 sound.built; settled = subst IsSettled (sym now_is) settled_now }

-- ---- a load that is refused by its path, or for lack of memory
module _ (boxes : ById Seen) (old middle new : Entries) (roots left : RootsView) (id : ℕ) (code : Checked) (name path : List ℕ) (refusal : Refusal) (sound : IsSound boxes old roots)
    (may : MayLoad old id code) (room : PutsProg old middle id (Some None)) where
  abbrev state_before : State
  state_before = state_of boxes old roots

  same_as : new ≡ middle → left ≡ roots → (work : ℕ) → IsUnchanged (view_of boxes old roots work) (view_of boxes new left work)
  same_as same same_roots work =
      subst (λ (x : Entries × RootsView). IsUnchanged (view_of boxes old roots work) (view_of boxes x.0 x.1 work)) (λ i. (sym same i, sym same_roots i)) (room_unchanged boxes old middle roots id may.absent room work)

  acts_by : (fine pinned : Bool) → is_path path ≡ fine → map.contains_key roots.pins path ≡ pinned → act state_before (Load id code name path) ≡ load_by state_before id (new_prog code name) path false true fine pinned
  acts_by fine pinned f n =
      acts_load state_before id code name path
      ∙ (λ i. load_by state_before id (new_prog code name) path (is_some ((get-progs_of old id ∙ may.absent) i)) ((sym (maps_live boxes old roots code sound) ∙ may.maps) i) (f i) (n i))

  reason : (work : ℕ) → (refusal ≡ NoMemory) ⊎ ((is_path path ≡ false) × (refusal ≡ Errno EINVAL)) ⊎ ((is_path path ≡ true) × (map.contains_key roots.pins path ≡ true) × (refusal ≡ Errno EEXIST))
      → IsReason (view_of boxes old roots work) (Load id code name path) refusal
  reason work (inl e) = subst (IsReason (view_of boxes old roots work) (Load id code name path)) (sym e) tt
  reason work (inr (inl e)) = subst (IsReason (view_of boxes old roots work) (Load id code name path)) (sym e.1) (tt, acts_by false (map.contains_key roots.pins path) e.0 refl)
  reason work (inr (inr e)) = subst (IsReason (view_of boxes old roots work) (Load id code name path)) (sym e.2) (tt, acts_by true true e.0 e.1)

  pub load_refused : (work : ℕ) → ProgPinnedIn middle roots id (new_prog code name) path (Err refusal) new left
      → IsReason (view_of boxes old roots work) (Load id code name path) refusal × IsUnchanged (view_of boxes old roots work) (view_of boxes new left work)
  load_refused work (inl n) =
      let no = no_pin roots path (Prog id) n.0 refusal left n.1 n.2 in (reason work no.told, same_as n.3 no.same work)
  load_refused work (inr n) = (reason work (inl n.0), same_as n.1 n.2 work)

  pub load_refused_sound : ProgPinnedIn middle roots id (new_prog code name) path (Err refusal) new left → IsSound boxes new left
  load_refused_sound (inl n) =
      let no = no_pin roots path (Prog id) n.0 refusal left n.1 n.2 in
      subst (λ (x : Entries × RootsView). IsSound boxes x.0 x.1) (λ i. (sym n.3 i, sym no.same i)) (room_sound boxes old middle roots id may.absent room sound)
  load_refused_sound (inr n) = subst (λ (x : Entries × RootsView). IsSound boxes x.0 x.1) (λ i. (sym n.1 i, sym n.2 i)) (room_sound boxes old middle roots id may.absent room sound)

-- if an entry was put there is one
pub has_room_now : (old new : Entries) (id : ℕ) (prog : Option HostProg) → PutsProg old new id (Some prog) → prog_at new id ≡ Some prog
has_room_now old new id prog puts = puts.0 id ∙ ap (λ b. cond b (Some prog) (prog_at old id)) (is_itself id)
