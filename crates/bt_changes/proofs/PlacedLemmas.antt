-- A world that is new, that takes a box in, and that drops what is not listed.
use Rattle.std.proofs.Common.{◌≡◌, ℕ, Bool, true, false, ◌&&◌, IsTrue, List, [], Option, Some, None, is_some, IsSome, cond, refl, sym, ap, subst, ◌∙◌, inl, inr, zero, suc, ◌∷◌, arith, Any, map as each, Result, Ok, Err, IsOk, OnOk, OnErr}
use Rattle.std.specs.Prelude.{if◌then◌else◌, ◌⊎◌}
use Rattle.std.specs.Option.{option_map}
use Rattle.std.specs.List.{filter}
use Rattle.std.specs.BTreeMap.{is_at}
use Rattle.std.specs.Ordering.{nat_cmp, eq_by_cmp}
use Rattle.std.specs.Cmp.{nat_cmp_total}
use Rattle.std.specs.FinMap as map
use Rattle.std.specs.FinSet as set
use Rattle.std.specs.FinMap.{nat_cmp-IsAntisymmetric}
use Rattle.std.proofs.lemmas.Map.Entries.{lookup-filter-keys}
use Rattle.bt_mapkind.specs.Attributes.{good}
use Rattle.bt_mapkind.specs.Seen.{Seen, IsFresh}
use Rattle.bt_mapkind.specs.Bounds.{AreBounded}
use Rattle.bt_mapkind.specs.Well.{IsWell}
use Rattle.map_laws.proofs.Bounded.{fresh_is_bounded}
use Rattle.bt_mapkind.proofs.Fresh.{fresh_is_well}
use Rattle.bt_objects.specs.Boxes.{make_of}
use Rattle.bt_objects.specs.declared.objects.PlaceFault.{PlaceFault}
use Rattle.bt_objects.specs.declared.objects.PlaceFault.TheVariants.{IdTaken}
use Rattle.bt_objects.specs.Ids.{is_among}
use Rattle.bt_roots.specs.View.{RootsView, fresh_roots, path_cmp, free_device}
use Rattle.host_state.specs.declared.entry.MapEntry.{MapEntry}
use Rattle.bt_objects.specs.ById.{ById, mapped}
use Rattle.host_state.specs.State.{HostProg}
use Rattle.host_state.specs.Settled.{IsSettled}
use Rattle.host_state.specs.World.{fresh_world, ListsLive, kept_state, kept_ready}
use Rattle.host_state.specs.Hosts.{Entries, found_in, entry_at, prog_at, held, host_of, hosts_of, progs_of, state_of, ready_of, view_of, PutsEntry, IsSound}
use Rattle.host_state.proofs.HostLemmas.{room_in, get-hosts_of, get-progs_of, hosts_same, same_progs}
use Rattle.host_state.proofs.ByIdLemmas.{same_some, same_map, get-mapped, mapped-put, get-put_at, get-put_same}
use Rattle.host_state.proofs.RoomLemmas.{contains-room}
use Rattle.host_state.proofs.Lasting.{get-kept}
use Rattle.host_state.proofs.KeptLemmas.{settled_kept}
use Rattle.host_state.proofs.LinkedLemmas.{all_reached}
use Rattle.bt_roots.specs.declared.target.Target.{Target}
use Rattle.bt_roots.specs.declared.device.Device.{Device}
use Rattle.bt_roots.specs.Reachable.{IsRoot}
use Rattle.host_undoing.proofs.ReturnedLemmas.{either, entry_here, entry_other, tied}

-- the same is found in both
abbrev pub SameEntries : Entries → Entries → Type 0
SameEntries old new = ((q : ℕ) → entry_at new q ≡ entry_at old q) × (new.progs ≡ old.progs)

-- the entries of the maps and of the programs that stay
pub record KeepsEntries (maps progs : ℕ → Bool) (old new : Entries) : Type 0 where
  pub maps_kept : (q : ℕ) → entry_at new q ≡ cond (maps q) (entry_at old q) None
  pub progs_kept : (q : ℕ) → prog_at new q ≡ cond (progs q) (prog_at old q) None

-- ---- a new world
abbrev pub nothing : Entries
nothing = record { maps = []; progs = [] }

nothing_mapped : mapped (λ id s. make_of s) map.empty ≡ map.empty
nothing_mapped = same_map _ _ (λ q. get-mapped (λ id s. make_of s) map.empty q ∙ ap (option_map make_of) (map.get-empty nat_cmp q) ∙ sym (map.get-empty nat_cmp q))

pub new_view : (names : List (List ℕ)) (work : ℕ) → work ≡ 0 → view_of map.empty nothing (fresh_roots names) work ≡ fresh_world names
new_view names work none = λ i. record { state = state_of map.empty nothing (fresh_roots names); ready = record { makes = nothing_mapped i; progs = set.empty; room = (fresh_roots names).room }; work = none i }

none_attached : (names : List (List ℕ)) (id : ℕ) → Any (λ (device : Device). device.prog ≡ Some id) (each free_device names) → ⊥
none_attached [] id (k, device, lt, is, attached) = omega (arith, lt)
none_attached (name ∷ names) id (zero, device, lt, is, attached) = cc (ap (λ (d : Device). d.prog) is, attached)
none_attached (name ∷ names) id (suc k, device, lt, is, attached) = none_attached names id (k, device, omega (arith, lt), is, attached)

pub new_sound : (names : List (List ℕ)) → IsSound map.empty nothing (fresh_roots names)
new_sound names = record {
  built = record {
    same_ids = λ id. sym (ap is_some (map.get-empty nat_cmp id));
    fresh = λ id s e at. cc;
    well = λ id s at. cc (map.get-empty nat_cmp id, at);
    bounded = λ id s at. cc (map.get-empty nat_cmp id, at);
    good_attr = λ id entry s e. cc;
  };
  settled = record {
    maps = λ id m at. cc (map.get-empty nat_cmp id, at);
    progs = λ id p at. cc (map.get-empty nat_cmp id, at);
    only = λ t r. absurd (all_reached (state_of map.empty nothing (fresh_roots names)) (λ t. ⊥) no_root (λ from to none there. none) t r);
  };
}
  where
    no_root : (t : Target) → IsRoot (fresh_roots names).pins (fresh_roots names).devices t → ⊥
    no_root t (inl p) = cc (map.get-empty {X = Target} path_cmp p.0, p.1)
    no_root t (inr a) = none_attached names a.0 a.2

-- ---- a box that is taken in
box_here : (boxes new : ById Seen) (id : ℕ) (s : Seen) → new ≡ map.insert boxes id s → map.get new id ≡ Some s
box_here boxes new id s is = ap (λ b. map.get b id) is ∙ get-put_same boxes id (Some s)

box_other : (boxes new : ById Seen) (id : ℕ) (s : Seen) (q : ℕ) → new ≡ map.insert boxes id s → eq_by_cmp nat_cmp q id ≡ false → map.get new q ≡ map.get boxes q
box_other boxes new id s q is apart = ap (λ b. map.get b q) is ∙ get-put_at boxes id q (Some s) ∙ ap (λ b. cond b (Some s) (map.get boxes q)) apart

no_entry : (o : Option (Option MapEntry)) (b : Option Seen) → is_some o ≡ is_some b → b ≡ None → o ≡ None
no_entry None b same none = refl
no_entry (Some e) b same none = cc (same, ap is_some none)

module _ (boxes new_boxes : ById Seen) (old new : Entries) (roots : RootsView) (id : ℕ) (s : Seen) (sound : IsSound boxes old roots) (none : map.get boxes id ≡ None)
    (placed : new_boxes ≡ map.insert boxes id s) (puts : PutsEntry old new id (Some None)) where
  -- the maps stay the same
  pub hosts_placed : hosts_of new_boxes new ≡ hosts_of boxes old
  hosts_placed = same_map _ _ (λ q. get-hosts_of new_boxes new q ∙ at q (either q id) ∙ sym (get-hosts_of boxes old q))
    where
      at : (q : ℕ) → (q ≡ id) ⊎ (eq_by_cmp nat_cmp q id ≡ false) → host_of (map.get new_boxes q) (held (entry_at new q)) ≡ host_of (map.get boxes q) (held (entry_at old q))
      at q (inl e) =
          subst (λ q. host_of (map.get new_boxes q) (held (entry_at new q)) ≡ host_of (map.get boxes q) (held (entry_at old q))) (sym e)
          ((λ i. host_of (box_here boxes new_boxes id s placed i) (held (entry_here old new id None puts i))) ∙ sym (ap (λ b. host_of b (held (entry_at old id))) none))
      at q (inr apart) = λ i. host_of (box_other boxes new_boxes id s q placed apart i) (held (entry_other old new id None q puts apart i))

  state_stays : state_of new_boxes new roots ≡ state_of boxes old roots
  state_stays = λ i. record { maps = hosts_placed i; progs = same_progs old new puts.1 i; pins = roots.pins; devices = roots.devices }

  pub placed_state : state_of new_boxes new roots ≡ state_of boxes old roots
  placed_state = state_stays

  pub placed_sound : IsFresh s → IsSound new_boxes new roots
  placed_sound is_fresh = record {
    built = record {
      same_ids = λ q. ids q (either q id);
      fresh = λ q t waits at. fresh_at q t waits at (either q id);
      well = λ q t at. well_at q t at (either q id);
      bounded = λ q t at. bounded_at q t at (either q id);
      good_attr = λ q entry t is at. good_at q entry t is at (either q id);
    };
    settled = subst IsSettled (sym state_stays) sound.settled;
  }
    where
      ids : (q : ℕ) → (q ≡ id) ⊎ (eq_by_cmp nat_cmp q id ≡ false) → is_some (entry_at new q) ≡ is_some (map.get new_boxes q)
      ids q (inl e) = subst (λ q. is_some (entry_at new q) ≡ is_some (map.get new_boxes q)) (sym e) (ap is_some (entry_here old new id None puts) ∙ sym (ap is_some (box_here boxes new_boxes id s placed)))
      ids q (inr apart) = ap is_some (entry_other old new id None q puts apart) ∙ sound.built.same_ids q ∙ sym (ap is_some (box_other boxes new_boxes id s q placed apart))

      fresh_at : (q : ℕ) (t : Seen) → entry_at new q ≡ Some None → map.get new_boxes q ≡ Some t → (q ≡ id) ⊎ (eq_by_cmp nat_cmp q id ≡ false) → IsFresh t
      fresh_at q t waits at (inl e) = subst IsFresh (same_some (sym (box_here boxes new_boxes id s placed) ∙ sym (ap (map.get new_boxes) e) ∙ at)) is_fresh
      fresh_at q t waits at (inr apart) = sound.built.fresh q t (sym (entry_other old new id None q puts apart) ∙ waits) (sym (box_other boxes new_boxes id s q placed apart) ∙ at)

      fresh_well : IsWell s.attr s.contents
      fresh_well = subst (IsWell s.attr) (sym is_fresh) (fresh_is_well s.attr)

      well_at : (q : ℕ) (t : Seen) → map.get new_boxes q ≡ Some t → (q ≡ id) ⊎ (eq_by_cmp nat_cmp q id ≡ false) → IsWell t.attr t.contents
      well_at q t at (inl e) = subst (λ (x : Seen). IsWell x.attr x.contents) (same_some (sym (box_here boxes new_boxes id s placed) ∙ sym (ap (map.get new_boxes) e) ∙ at)) fresh_well
      well_at q t at (inr apart) = sound.built.well q t (sym (box_other boxes new_boxes id s q placed apart) ∙ at)

      bounded_at : (q : ℕ) (t : Seen) → map.get new_boxes q ≡ Some t → (q ≡ id) ⊎ (eq_by_cmp nat_cmp q id ≡ false) → AreBounded t.contents
      bounded_at q t at (inl e) =
          subst (λ (x : Seen). AreBounded x.contents) (same_some (sym (box_here boxes new_boxes id s placed) ∙ sym (ap (map.get new_boxes) e) ∙ at)) (subst AreBounded (sym is_fresh) (fresh_is_bounded s.attr))
      bounded_at q t at (inr apart) = sound.built.bounded q t (sym (box_other boxes new_boxes id s q placed apart) ∙ at)

      good_at : (q : ℕ) (entry : MapEntry) (t : Seen) → entry_at new q ≡ Some (Some entry) → map.get new_boxes q ≡ Some t → (q ≡ id) ⊎ (eq_by_cmp nat_cmp q id ≡ false) → IsTrue (good t.attr)
      good_at q entry t is at (inl e) = cc (sym (entry_here old new id None puts) ∙ sym (ap (entry_at new) e) ∙ is)
      good_at q entry t is at (inr apart) =
          sound.built.good_attr q entry t (sym (entry_other old new id None q puts apart) ∙ is) (sym (box_other boxes new_boxes id s q placed apart) ∙ at)

pub makes_placed : (boxes new : ById Seen) (id : ℕ) (s : Seen) → new ≡ map.insert boxes id s → mapped (λ id s. make_of s) new ≡ map.insert (mapped (λ id s. make_of s) boxes) id (make_of s)
makes_placed boxes new id s is = ap (mapped (λ id s. make_of s)) is ∙ mapped-put (λ id s. make_of s) boxes id (Some s)

-- nothing was taken in
entries_state : (boxes : ById Seen) (old new : Entries) (roots : RootsView) → SameEntries old new → state_of boxes new roots ≡ state_of boxes old roots
entries_state boxes old new roots same = λ i. record { maps = hosts_same boxes old new same.0 i; progs = same_progs old new same.1 i; pins = roots.pins; devices = roots.devices }

pub same_sound : (boxes new_boxes : ById Seen) (old new : Entries) (roots : RootsView) → IsSound boxes old roots → new_boxes ≡ boxes → SameEntries old new → IsSound new_boxes new roots
same_sound boxes new_boxes old new roots sound is same =
    subst (λ b. IsSound b new roots) (sym is) (record {
      built = record {
        same_ids = λ q. ap is_some (same.0 q) ∙ sound.built.same_ids q;
        fresh = λ q s waits. sound.built.fresh q s (sym (same.0 q) ∙ waits);
        well = sound.built.well;
        bounded = sound.built.bounded;
        good_attr = λ q entry s at. sound.built.good_attr q entry s (sym (same.0 q) ∙ at);
      };
      settled = subst IsSettled (sym (entries_state boxes old new roots same)) sound.settled;
    })

pub same_state : (boxes new_boxes : ById Seen) (old new : Entries) (roots : RootsView) → new_boxes ≡ boxes → SameEntries old new → state_of new_boxes new roots ≡ state_of boxes old roots
same_state boxes new_boxes old new roots is same =
    ap (λ b. state_of b new roots) is ∙ entries_state boxes old new roots same

-- an id stands among the boxes where it stands among their makes
pub there_too : (boxes : ById Seen) (id : ℕ) → is_some (map.get (mapped (λ id s. make_of s) boxes) id) ≡ is_some (map.get boxes id)
there_too boxes id = ap is_some (get-mapped (λ id s. make_of s) boxes id) ∙ of (map.get boxes id)
  where
    of : (o : Option Seen) → is_some (option_map make_of o) ≡ is_some o
    of None = refl
    of (Some s) = refl

-- ---- what is not listed goes
pub found_in-filter : {X : Type 0} (ids : List ℕ) (entries : List (ℕ × Option X)) (q : ℕ) → found_in (filter (λ e. is_among ids e.0) entries) q ≡ (if is_among ids q then found_in entries q else None)
found_in-filter ids entries q =
    lookup-filter-keys (is_at (nat_cmp q)) (is_among ids) (is_among ids q) (λ k same. ap (is_among ids) (sym (nat_cmp-IsAntisymmetric q k (tied (nat_cmp q k) same)))) entries

module _ (boxes new_boxes : ById Seen) (old new : Entries) (roots : RootsView) (ids progs : List ℕ) (sound : IsSound boxes old roots)
    (is : new_boxes ≡ map.retain_keys boxes (is_among ids)) (keeps : KeepsEntries (is_among ids) (is_among progs) old new) (lists : ListsLive ids progs (state_of boxes old roots)) where
  found : (q : ℕ) → map.get new_boxes q ≡ cond (is_among ids q) (map.get boxes q) None
  found q = ap (λ b. map.get b q) is ∙ get-kept ids boxes q

  kept_hosts : hosts_of new_boxes new ≡ map.retain_keys (hosts_of boxes old) (is_among ids)
  kept_hosts =
      same_map _ _ (λ q.
      get-hosts_of new_boxes new q
      ∙ (λ i. host_of (found q i) (held (keeps.maps_kept q i)))
      ∙ both (is_among ids q) (map.get boxes q) (entry_at old q)
      ∙ ap (λ o. cond (is_among ids q) o None) (sym (get-hosts_of boxes old q))
      ∙ sym (get-kept ids (hosts_of boxes old) q))
    where
      both : (b : Bool) (box : Option Seen) (entry : Option (Option MapEntry)) → host_of (cond b box None) (held (if b then entry else None)) ≡ cond b (host_of box (held entry)) None
      both true box entry = refl
      both false box entry = refl

  kept_progs : progs_of new ≡ map.retain_keys (progs_of old) (is_among progs)
  kept_progs =
      same_map _ _ (λ q.
      get-progs_of new q
      ∙ ap (λ (o : Option (Option HostProg)). held o) (keeps.progs_kept q)
      ∙ both (is_among progs q) (prog_at old q)
      ∙ ap (λ o. cond (is_among progs q) o None) (sym (get-progs_of old q))
      ∙ sym (get-kept progs (progs_of old) q))
    where
      both : (b : Bool) (o : Option (Option HostProg)) → held (if b then o else None) ≡ cond b (held o) None
      both true o = refl
      both false o = refl

  kept_room : room_in new ≡ set.retain (room_in old) (is_among progs)
  kept_room =
      set.same_set nat_cmp_total nat_cmp-IsAntisymmetric _ _ (λ q.
      contains-room new q
      ∙ ap is_some (keeps.progs_kept q)
      ∙ both (is_among progs q) (prog_at old q)
      ∙ ap (λ b. b && is_among progs q) (sym (contains-room old q))
      ∙ sym (set.contains-retain (room_in old) (is_among progs) q (λ x same. ap (is_among progs) (sym (nat_cmp-IsAntisymmetric q x same)))))
    where
      both : (b : Bool) (o : Option (Option HostProg)) → is_some (if b then o else None) ≡ is_some o && b
      both true None = refl
      both true (Some p) = refl
      both false None = refl
      both false (Some p) = refl

  pub dropped_state : state_of new_boxes new roots ≡ kept_state ids progs (state_of boxes old roots)
  dropped_state = λ i. record { maps = kept_hosts i; progs = kept_progs i; pins = roots.pins; devices = roots.devices }

  pub dropped_ready : ready_of new_boxes new roots ≡ kept_ready ids progs (ready_of boxes old roots)
  dropped_ready = λ i. record {
    makes = same_map (mapped (λ id s. make_of s) new_boxes) (map.retain_keys (mapped (λ id s. make_of s) boxes) (is_among ids)) (λ q.
        get-mapped (λ id s. make_of s) new_boxes q ∙ ap (option_map make_of) (found q) ∙ each_kept (is_among ids q) (map.get boxes q)
        ∙ ap (λ o. cond (is_among ids q) o None) (sym (get-mapped (λ id s. make_of s) boxes q))
        ∙ sym (get-kept ids (mapped (λ id s. make_of s) boxes) q)) i;
    progs = kept_room i;
    room = roots.room;
  }
    where
      each_kept : (b : Bool) (o : Option Seen) → option_map make_of (cond b o None) ≡ cond b (option_map make_of o) None
      each_kept true o = refl
      each_kept false o = refl

  pub dropped_sound : IsSound new_boxes new roots
  dropped_sound = record {
    built = record {
      same_ids = λ q. ap is_some (keeps.maps_kept q) ∙ ids_kept (is_among ids q) (entry_at old q) (map.get boxes q) (sound.built.same_ids q) ∙ sym (ap is_some (found q));
      fresh = λ q s waits at. sound.built.fresh q s (entry_was (is_among ids q) (entry_at old q) (Some None) (sym (keeps.maps_kept q) ∙ waits) refl) (box_was (is_among ids q) (map.get boxes q) s (sym (found q) ∙ at));
      well = λ q s at. sound.built.well q s (box_was (is_among ids q) (map.get boxes q) s (sym (found q) ∙ at));
      bounded = λ q s at. sound.built.bounded q s (box_was (is_among ids q) (map.get boxes q) s (sym (found q) ∙ at));
      good_attr = λ q entry s is at. sound.built.good_attr q entry s (entry_was (is_among ids q) (entry_at old q) (Some (Some entry)) (sym (keeps.maps_kept q) ∙ is) refl) (box_was (is_among ids q) (map.get boxes q) s (sym (found q) ∙ at));
    };
    settled = subst IsSettled (sym dropped_state) (settled_kept ids progs (state_of boxes old roots) sound.settled lists);
  }
    where
      ids_kept : (b : Bool) (e : Option (Option MapEntry)) (o : Option Seen) → is_some e ≡ is_some o → is_some (if b then e else None) ≡ is_some (cond b o None)
      ids_kept true e o same = same
      ids_kept false e o same = refl

      entry_was : (b : Bool) (e there : Option (Option MapEntry)) → (if b then e else None) ≡ there → is_some there ≡ true → e ≡ there
      entry_was true e there is some = is
      entry_was false e there is some = cc (ap is_some is, some)

      box_was : (b : Bool) (o : Option Seen) (s : Seen) → cond b o None ≡ Some s → o ≡ Some s
      box_was true o s is = is
      box_was false o s is = cc

-- ---- a box that was taken in, or not
module _ (boxes new_boxes : ById Seen) (old new : Entries) (roots : RootsView) (id : ℕ) (s : Seen) (sound : IsSound boxes old roots) (is_fresh : IsFresh s) where
  none_where : (o : Option Seen) → (result : Result (Unit {0}) PlaceFault) → IsOk result → (IsSome o → result ≡ Err IdTaken) → o ≡ None
  none_where None result ok taken = refl
  none_where (Some s) (Ok u) ok taken = cc (taken refl)
  none_where (Some s) (Err fault) ok taken = cc

  pub after_place : (result : Result (Unit {0}) PlaceFault) → (IsSome (map.get boxes id) → result ≡ Err IdTaken) → OnOk result (new_boxes ≡ map.insert boxes id s) → OnOk result (PutsEntry old new id (Some None))
      → OnErr result (new_boxes ≡ boxes) → OnErr result (SameEntries old new) → IsSound new_boxes new roots × (state_of new_boxes new roots ≡ state_of boxes old roots)
  after_place (Ok u) taken is puts same same_entries =
      let none = none_where (map.get boxes id) (Ok u) refl taken in (
        placed_sound boxes new_boxes old new roots id s sound none is puts is_fresh,
        placed_state boxes new_boxes old new roots id s sound none is puts,
      )
  after_place (Err fault) taken is puts same same_entries =
      (same_sound boxes new_boxes old new roots sound same same_entries, same_state boxes new_boxes old new roots same same_entries)

pub on_ok : {A B : Type 0} (result : Result (Unit {0}) PlaceFault) → (A → B) → OnOk result A → OnOk result B
on_ok (Ok u) f a = f a
on_ok (Err fault) f a = a
