-- A new map with its pin joins the states before and after it, and the world stays sound.
use Rattle.std.proofs.Common.{◌≡◌, ℕ, Bool, true, false, IsTrue, List, [], Option, Some, None, Ok, Err, is_some, cond, refl, sym, ap, subst, ◌∙◌, inl, inr}
use Rattle.std.specs.Prelude.{◌⊎◌}
use Rattle.std.specs.Option.{option_map}
use Rattle.std.specs.FinMap as map
use Rattle.std.specs.FinSet as set
use Rattle.std.specs.Ordering.{nat_cmp, eq_by_cmp}
use Rattle.host_words.specs.Spelling.{is_name, is_path}
use Rattle.bt_mapkind.specs.Attributes.{good}
use Rattle.bt_mapkind.proofs.Stays.{both_true}
use Rattle.bt_mapkind.specs.declared.attr.MapAttr.{MapAttr}
use Rattle.bt_mapkind.specs.Seen.{Seen, IsFresh}
use Rattle.bt_objects.specs.Boxes.{ById, make_of}
use Rattle.bt_objects.specs.declared.make.Make.{Make}
use Rattle.bt_roots.specs.declared.target.Target.{Target}
use Rattle.bt_roots.specs.declared.target.Target.TheVariants.{Map, Prog}
use Rattle.bt_roots.specs.declared.back.RootBack.{RootBack}
use Rattle.bt_roots.specs.declared.back.RootBack.TheVariants.{Pin}
use Rattle.bt_roots.specs.View.{RootsView}
use Rattle.bt_roots.specs.Exchange.{exchange_fits, exchanged, put_at as put_pin}
use Rattle.bt_roots.proofs.ExchangeLemmas.{room_made, room_kept, turns_back}
use Rattle.host_state.specs.declared.change.Change.TheVariants.{Create}
use Rattle.host_state.specs.declared.entry.MapEntry.{MapEntry}
use Rattle.host_state.specs.declared.reply.Reply.TheVariants.{Id}
use Rattle.bt_mapkind.specs.declared.errno.Errno.TheVariants.{EINVAL, EEXIST}
use Rattle.host_state.specs.declared.reply.Refusal.{Refusal}
use Rattle.host_state.specs.declared.reply.Refusal.TheVariants.{Errno, NoMemory}
use Rattle.host_undoing.specs.declared.undoing.Part.{Part}
use Rattle.host_undoing.specs.declared.undoing.Part.TheVariants.{Presence}
use Rattle.host_undoing.specs.declared.undoing.Undoing.{Undoing}
use Rattle.host_state.specs.declared.retirement.Retirement.{Retirement}
use Rattle.bt_objects.specs.ById.{put_at, mapped}
use Rattle.host_state.specs.State.{State, hosted, made, entry_of, new_entry}
use Rattle.host_state.specs.Settled.{IsSettled, is_live_map, is_live_in}
use Rattle.host_state.specs.Act.{act}
use Rattle.host_state.proofs.Tests.{new_map}
use Rattle.host_state.specs.World.{Ready}
use Rattle.host_state.specs.Hosts.{Entries, entry_at, held, host_of, hosts_of, state_of, ready_of, view_of, PutsEntry, IsSound}
use Rattle.host_state.proofs.HostLemmas.{room_in, hosts_put, same_progs}
use Rattle.host_pins.proofs.CreatedLemmas.{PinnedIn, IsNewPin, MayCreate, no_pin, host_absent, template_is, act_create, pinned_by}
use Rattle.host_undoing.proofs.Parts.{IsApplied, PartJoins, LivesInOne}
use Rattle.host_undoing.specs.Answers.{IsReason, IsUnchanged, Retires}
use Rattle.host_undoing.specs.Exchange.{Joins, part_turned, part_back, back_of}
use Rattle.host_state.proofs.ByIdLemmas.{same_some, same_of, at_put, get-put_same, put_twice, put_there, get-mapped}
use Rattle.host_state.proofs.RoomLemmas.{room_stays}
use Rattle.host_undoing.proofs.RetiringLemmas.{plain_joins, nothing_retires}
use Rattle.host_state.proofs.RetireLemmas.{second_lives}
use Rattle.host_state.proofs.SettleLemmas.{settle_settled, settled_created, fresh_names_none}
use Rattle.host_state.proofs.Lasting.{pinned_there}

-- a pin that is put at a free path and taken away
pub unpinned : (roots : RootsView) (path : List ℕ) (target : Target) → map.get roots.pins path ≡ None → map.remove (map.insert roots.pins path target) path ≡ roots.pins
unfolding exchanged exchange_fits
unpinned roots path target free =
    ap (put_pin (map.insert roots.pins path target) path) (sym free)
    ∙ ap (λ (x : RootsView × RootBack). x.0.pins) (turns_back (record roots { room = set.insert roots.room path }) (Pin path (Some target)) (room_made roots.room path))

module _ (ready : Ready) (s : State) (id : ℕ) (make : Make) (entry : MapEntry) (path : List ℕ) (absent : map.get s.maps id ≡ None) (free : map.get s.pins path ≡ None)
    (fine : IsTrue (good make.attr)) (waits : map.get ready.makes id ≡ Some make) (room : set.contains ready.room path ≡ true) where
  abbrev after : State
  after = record s { maps = map.insert s.maps id (made make entry); pins = map.insert s.pins path (Map id) }

  abbrev back : Part
  back = Presence id make None (Pin path None)

  abbrev forth : Part
  forth = Presence id make (Some entry) (Pin path (Some (Map id)))

  there : map.get (map.insert s.maps id (made make entry)) id ≡ Some (made make entry)
  there = get-put_same s.maps id (Some (made make entry))

  back_state : part_turned after back ≡ s
  unfolding part_turned exchanged
  back_state = λ i. record s {
    maps = (put_twice s.maps id (Some (made make entry)) None ∙ put_there s.maps id None absent) i;
    pins = unpinned (record { pins = s.pins; devices = s.devices; room = set.empty }) path (Map id) free i;
  }

  back_face : part_back after back ≡ forth
  unfolding part_back exchanged
  back_face = λ i. Presence id make (option_map entry_of (there i)) (Pin path (pinned_there s path (Map id) i))

  forth_state : part_turned s forth ≡ after
  unfolding part_turned exchanged
  forth_state = refl

  forth_face : part_back s forth ≡ back
  unfolding part_back exchanged
  forth_face = λ i. Presence id make (option_map entry_of (absent i)) (Pin path (free i))

  pub presence_joins : PartJoins ready s (record s { maps = map.insert s.maps id (made make entry); pins = map.insert s.pins path (Map id) }) (Presence id make None (Pin path None))
      (Presence id make (Some entry) (Pin path (Some (Map id))))
  unfolding exchange_fits
  presence_joins = record {
    back_place = ((entry, there), room);
    back_state = back_state;
    back_face = back_face;
    forth_place = ((fine, absent, waits), room);
    forth_state = forth_state;
    forth_face = forth_face;
  }

-- ---- a new map of a world
record IsWaiting (boxes : ById Seen) (entries : Entries) (id : ℕ) (make : Make) : Type 0 where
  box : Seen
  there : map.get boxes id ≡ Some box
  made_as : make_of box ≡ make
  empty : entry_at entries id ≡ Some None

waiting : (boxes : ById Seen) (entries : Entries) (id : ℕ) (make : Make) → is_some (entry_at entries id) ≡ is_some (map.get boxes id) → held (entry_at entries id) ≡ None
    → option_map make_of (map.get boxes id) ≡ Some make → IsWaiting boxes entries id make
waiting boxes entries id make same absent is = at (map.get boxes id) (entry_at entries id) refl refl same absent is
  where
    at : (b : Option Seen) (e : Option (Option MapEntry)) → map.get boxes id ≡ b → entry_at entries id ≡ e → is_some e ≡ is_some b → held e ≡ None → option_map make_of b ≡ Some make
        → IsWaiting boxes entries id make
    at None e b_is e_is same absent is = cc
    at (Some b) None b_is e_is same absent is = cc
    at (Some b) (Some None) b_is e_is same absent is = record { box = b; there = b_is; made_as = same_some is; empty = e_is }
    at (Some b) (Some (Some entry)) b_is e_is same absent is = cc

module _ (boxes : ById Seen) (entries new : Entries) (roots left : RootsView) (work : ℕ) (id : ℕ) (make : Make) (name path : List ℕ) (template : Option ℕ) (agreed : Option MapAttr) (pin : RootBack)
    (sound : IsSound boxes entries roots) (is_make : option_map make_of (map.get boxes id) ≡ Some make) (may : MayCreate boxes entries id make.attr name template agreed)
    (p : IsNewPin roots path (Map id) pin left) (puts : PutsEntry entries new id (Some (Some (new_entry name agreed))))
    (retired : Retirement) (none : retired.targets ≡ []) (live : retired.live ≡ true) where
  abbrev was : State
  was = state_of boxes entries roots

  abbrev entry : MapEntry
  entry = new_entry name agreed

  w : IsWaiting boxes entries id make
  w = waiting boxes entries id make (sound.built.same_ids id) may.absent is_make

  absent : map.get (hosts_of boxes entries) id ≡ None
  absent = host_absent boxes entries id may.absent

  host_is : host_of (map.get boxes id) (Some entry) ≡ Some (made make entry)
  host_is =
      ap (λ o. host_of o (Some entry)) w.there
      ∙ ap (λ c. Some (hosted (make_of w.box) c entry)) (sound.built.fresh id w.box w.empty w.there)
      ∙ ap (λ m. Some (made m entry)) w.made_as

  abbrev next : State
  next = record was { maps = map.insert (hosts_of boxes entries) id (made make entry); pins = map.insert roots.pins path (Map id) }

  now_is : state_of boxes new left ≡ next
  now_is = λ i. record {
    maps = (hosts_put boxes entries new id (Some entry) puts ∙ ap (put_at (hosts_of boxes entries) id) host_is) i;
    progs = same_progs entries new puts.1 i;
    pins = ap (λ (r : RootsView). r.pins) p.left_is i;
    devices = ap (λ (r : RootsView). r.devices) p.left_is i;
  }

  settled_now : IsSettled next
  settled_now = settled_created was id (made make entry) path absent p.free (fresh_names_none make.attr) refl sound.settled

  acts : act was (Create id make.attr make.charge name path template) ≡ Ok (state_of boxes new left, Id id)
  acts =
      act_create was id make.attr make.charge name path template agreed absent may.fine (template_is boxes entries roots make.attr.kind template ∙ may.template_found)
      ∙ ap (λ b. pinned_by was id (made make entry) path b (map.contains_key roots.pins path)) p.good
      ∙ ap (λ b. pinned_by was id (made make entry) path true b) (ap is_some p.free)
      ∙ ap (λ s. Ok (s, Id id)) (settle_settled next settled_now ∙ sym now_is)

  abbrev ready : Ready
  ready = ready_of boxes new left

  waits : map.get ready.makes id ≡ Some make
  waits = get-mapped (λ id s. make_of s) boxes id ∙ is_make

  has_room : set.contains left.room path ≡ true
  has_room = ap (λ (r : RootsView). set.contains r.room path) p.left_is ∙ room_made roots.room path

  abbrev undoing : Undoing
  undoing = record { part = Presence id make None pin; retired = retired }

  joined : Joins ready was (state_of boxes new left) undoing (back_of (state_of boxes new left) undoing)
  joined =
      subst (λ (x : State × RootBack). Joins ready was x.0 (record { part = Presence id make None x.1; retired = retired }) (back_of x.0 (record { part = Presence id make None x.1; retired = retired })))
      (λ i. (sym now_is i, sym p.pin_is i))
      (plain_joins ready was next (Presence id make None (Pin path None)) (Presence id make (Some entry) (Pin path (Some (Map id)))) retired
      (presence_joins ready was id make entry path absent p.free (both_true (good make.attr) (is_name name) may.fine).0 waits has_room) none live sound.settled settled_now
      (λ t e. subst (LivesInOne was next) (same_some e) (second_lives (is_live_in was (Map id)) (is_live_in next (Map id)) (ap is_live_map (get-put_same (hosts_of boxes entries) id (Some (made make entry)))))))

  -- the new map is live, and the others as before
  still : (t : Target) → IsTrue (is_live_in was t) → IsTrue (is_live_in next t)
  still (Map q) live = at_put (hosts_of boxes entries) id q (Some (made make entry)) (λ o. is_live_map o ≡ true) (λ e. refl) live
  still (Prog q) live = live

  pub create_applied : IsApplied (record { state = state_of boxes entries roots; ready = ready_of boxes entries roots; work = work }) (Create id make.attr make.charge name path template) (Id id)
      (record { part = Presence id make None pin; retired = retired }) (record { state = state_of boxes new left; ready = ready_of boxes new left; work = work })
  create_applied = record {
    acts = acts;
    joins = joined;
    own = (pin, refl);
    retires = subst (λ s. Retires was s retired) (sym now_is) (nothing_retires was next retired none live still);
    boxes = record { makes = refl; progs = λ q there. ap (λ rs. set.contains rs q) (room_stays entries new puts.1) ∙ there; room = λ q there. ap (λ (r : RootsView). set.contains r.room q) p.left_is ∙ room_kept roots.room path q there };
  }

  pub create_sound : IsSound boxes new left
  create_sound = record {
    built = record {
      same_ids = λ q. at_entry q (λ o. is_some o ≡ is_some (map.get boxes q)) (λ e. sym (ap (λ k. is_some (map.get boxes k)) e ∙ ap is_some w.there)) (sound.built.same_ids q);
      fresh = λ q s. at_entry q (λ o. o ≡ Some None → map.get boxes q ≡ Some s → IsFresh s) (λ e waits at. cc) (sound.built.fresh q s);
      well = sound.built.well;
      bounded = sound.built.bounded;
      good_attr = λ q other s. at_entry q (λ o. o ≡ Some (Some other) → map.get boxes q ≡ Some s → IsTrue (good s.attr))
          (λ e is at. ap (λ (m : Make). good m.attr) (ap make_of (same_some (sym at ∙ ap (map.get boxes) e ∙ w.there)) ∙ w.made_as) ∙ (both_true (good make.attr) (is_name name) may.fine).0)
          (sound.built.good_attr q other s);
    };
    settled = subst IsSettled (sym now_is) settled_now;
  }
    where
      at_entry : (q : ℕ) (P : Option (Option MapEntry) → Type 0) → (q ≡ id → P (Some (Some (new_entry name agreed)))) → P (entry_at entries q) → P (entry_at new q)
      at_entry q P here other = subst P (sym (puts.0 q)) (cases (eq_by_cmp nat_cmp id q) refl)
        where
          cases : (b : Bool) → eq_by_cmp nat_cmp id q ≡ b → P (cond b (Some (Some (new_entry name agreed))) (entry_at entries q))
          cases true tied = here (sym (same_of id q tied))
          cases false apart = other

-- ---- a create that is refused
-- a box of the make stands ready if it is found
pub has_blank : (boxes : ById Seen) (id : ℕ) (make : Make) → option_map make_of (map.get boxes id) ≡ Some make → map.get (mapped (λ id s. make_of s) boxes) id ≡ Some make
has_blank boxes id make is = get-mapped (λ id s. make_of s) boxes id ∙ is

same_view : (boxes : ById Seen) (old new : Entries) (roots left : RootsView) (work : ℕ) → new ≡ old → left ≡ roots → IsUnchanged (view_of boxes old roots work) (view_of boxes new left work)
same_view boxes old new roots left work same same_roots = record {
  state = λ i. state_of boxes (same i) (same_roots i);
  boxes = record { makes = refl; progs = λ q there. ap (λ (es : Entries). set.contains (room_in es) q) same ∙ there; room = λ path there. ap (λ (r : RootsView). set.contains r.room path) same_roots ∙ there };
}

pub create_refused : (boxes : ById Seen) (old new : Entries) (roots left : RootsView) (work : ℕ) (id : ℕ) (make : Make) (name path : List ℕ) (template : Option ℕ) (agreed : Option MapAttr) (refusal : Refusal)
    → IsSound boxes old roots → option_map make_of (map.get boxes id) ≡ Some make → MayCreate boxes old id make.attr name template agreed
    → PinnedIn old roots id (new_entry name agreed) path (Err refusal) new left
    → IsReason (view_of boxes old roots work) (Create id make.attr make.charge name path template) refusal × IsUnchanged (view_of boxes old roots work) (view_of boxes new left work)
create_refused boxes old new roots left work id make name path template agreed refusal sound is_make may (inr n) =
    (subst (λ r. IsReason (view_of boxes old roots work) (Create id make.attr make.charge name path template) r) (sym n.0) tt, same_view boxes old new roots left work n.1 n.2)
create_refused boxes old new roots left work id make name path template agreed refusal sound is_make may (inl n) =
    let no = no_pin roots path (Map id) n.0 refusal left n.1 n.2 in
    (reason no.told, same_view boxes old new roots left work n.3 no.same)
  where
    acts : (good there : Bool) → is_path path ≡ good → map.contains_key roots.pins path ≡ there
        → act (state_of boxes old roots) (Create id make.attr make.charge name path template) ≡ pinned_by (state_of boxes old roots) id (new_map make.attr make.charge name agreed) path good there
    acts good there g t =
        act_create (state_of boxes old roots) id make.attr make.charge name path template agreed (host_absent boxes old id may.absent) may.fine
        (template_is boxes old roots make.attr.kind template ∙ may.template_found)
        ∙ (λ i. pinned_by (state_of boxes old roots) id (new_map make.attr make.charge name agreed) path (g i) (t i))

    reason : (refusal ≡ NoMemory) ⊎ ((is_path path ≡ false) × (refusal ≡ Errno EINVAL)) ⊎ ((is_path path ≡ true) × (map.contains_key roots.pins path ≡ true) × (refusal ≡ Errno EEXIST))
        → IsReason (view_of boxes old roots work) (Create id make.attr make.charge name path template) refusal
    reason (inl e) = subst (λ r. IsReason (view_of boxes old roots work) (Create id make.attr make.charge name path template) r) (sym e) tt
    reason (inr (inl e)) =
        subst (λ r. IsReason (view_of boxes old roots work) (Create id make.attr make.charge name path template) r) (sym e.1)
        (has_blank boxes id make is_make, acts false (map.contains_key roots.pins path) e.0 refl)
    reason (inr (inr e)) =
        subst (λ r. IsReason (view_of boxes old roots work) (Create id make.attr make.charge name path template) r) (sym e.2)
        (has_blank boxes id make is_make, acts true true e.0 e.1)

pub refused_sound : (boxes : ById Seen) (old new : Entries) (roots left : RootsView) (id : ℕ) (entry : MapEntry) (path : List ℕ) (refusal : Refusal) → PinnedIn old roots id entry path (Err refusal) new left
    → IsSound boxes old roots → IsSound boxes new left
refused_sound boxes old new roots left id entry path refusal (inr n) sound = subst (λ (x : Entries × RootsView). IsSound boxes x.0 x.1) (λ i. (sym n.1 i, sym n.2 i)) sound
refused_sound boxes old new roots left id entry path refusal (inl n) sound =
    let no = no_pin roots path (Map id) n.0 refusal left n.1 n.2 in subst (λ (x : Entries × RootsView). IsSound boxes x.0 x.1) (λ i. (sym n.3 i, sym no.same i)) sound
