-- What a turning of a map that comes or goes leaves.
use Rattle.std.proofs.Common.{◌≡◌, ◌≢◌, ℕ, false, IsTrue, Option, Some, None, is_some, refl, sym, ap, subst, ◌∙◌, inl, inr, Bool, true, cond}
use Rattle.std.specs.Prelude.{◌⊎◌}
use Rattle.std.specs.Option.{option_map}
use Rattle.std.specs.Ordering.{nat_cmp, eq_by_cmp, is_eq}
use Rattle.std.specs.FinMap as map
use Rattle.std.specs.FinSet as set
use Rattle.bt_mapkind.specs.Attributes.{good}
use Rattle.bt_mapkind.specs.Contents.{fresh}
use Rattle.bt_mapkind.specs.Seen.{Seen, IsFresh}
use Rattle.bt_objects.specs.Boxes.{ById, make_of}
use Rattle.bt_objects.specs.declared.make.Make.{Make}
use Rattle.bt_roots.specs.declared.back.RootBack.{RootBack}
use Rattle.bt_roots.specs.declared.back.RootBack.TheVariants.{Pin, Attachment}
use Rattle.bt_roots.specs.View.{RootsView}
use Rattle.bt_roots.specs.Exchange.{exchanged}
use Rattle.host_state.specs.declared.entry.MapEntry.{MapEntry}
use Rattle.host_undoing.specs.declared.undoing.Part.TheVariants.{Presence, Program, Pinned}
use Rattle.bt_objects.specs.ById.{put_at, mapped}
use Rattle.host_state.specs.State.{HostMap, HostProg, hosted, made, entry_of}
use Rattle.host_state.specs.Hosts.{Entries, Table, found_in, entry_at, prog_at, held, host_of, hosts_of, progs_of, state_of, ready_of, PutsEntry, PutsProg, IsBuilt}
use Rattle.host_state.proofs.HostLemmas.{room_in, get-hosts_of, get-progs_of, hosts_put, progs_put, same_hosts, same_progs}
use Rattle.host_undoing.specs.Exchange.{part_turned, part_back, IsTurnable, IsLoadable}
use Rattle.host_state.proofs.ByIdLemmas.{same_some, get-mapped, same_of, is_itself}
use Rattle.host_state.proofs.RoomLemmas.{contains-room, room_put, room_stays}
use Rattle.std.specs.declared.cmp.Ordering.{Ordering}
use Rattle.std.specs.declared.cmp.Ordering.TheVariants.{Less, Equal, Greater}
use Rattle.std.specs.Cmp.{nat_cmp_total, eq_by_cmp_equiv}

turn_round : (id q : ℕ) → eq_by_cmp nat_cmp id q ≡ eq_by_cmp nat_cmp q id
turn_round = (eq_by_cmp_equiv nat_cmp_total).symm

-- an id is this one or another
pub either : (q id : ℕ) → (q ≡ id) ⊎ (eq_by_cmp nat_cmp q id ≡ false)
either q id = cases (eq_by_cmp nat_cmp q id) refl
  where
    cases : (b : Bool) → eq_by_cmp nat_cmp q id ≡ b → (q ≡ id) ⊎ (eq_by_cmp nat_cmp q id ≡ false)
    cases true tied = inl (same_of q id tied)
    cases false apart = inr apart

pub entry_here : (old new : Entries) (id : ℕ) (entry : Option MapEntry) → PutsEntry old new id (Some entry) → entry_at new id ≡ Some entry
entry_here old new id entry puts = puts.0 id ∙ ap (λ b. cond b (Some entry) (entry_at old id)) (is_itself id)

pub entry_other : (old new : Entries) (id : ℕ) (entry : Option MapEntry) (q : ℕ) → PutsEntry old new id (Some entry) → eq_by_cmp nat_cmp q id ≡ false → entry_at new q ≡ entry_at old q
entry_other old new id entry q puts apart = puts.0 q ∙ ap (λ b. cond b (Some entry) (entry_at old q)) (turn_round id q ∙ apart)

pub tied : (order : Ordering) → is_eq order ≡ true → order ≡ Equal
tied Less e = cc
tied Equal e = refl
tied Greater e = cc

-- whatever paths have room, pins, devices and what comes out are the same
pub same_turning : (roots : RootsView) (pin : RootBack)
    → ((exchanged roots pin).0.pins ≡ (exchanged (record roots { room = set.empty }) pin).0.pins)
    × ((exchanged roots pin).0.devices ≡ (exchanged (record roots { room = set.empty }) pin).0.devices)
    × ((exchanged roots pin).1 ≡ (exchanged (record roots { room = set.empty }) pin).1)
    × ((exchanged roots pin).0.room ≡ roots.room)
unfolding exchanged
same_turning roots (Pin path target) = (refl, refl, refl, refl)
same_turning roots (Attachment position prog) = (refl, refl, refl, refl)

-- the box of a map that comes or goes, and what is known of it
record IsBox (boxes : ById Seen) (entries : Entries) (id : ℕ) (make : Make) (entry : Option MapEntry) : Type 0 where
  box : Seen
  there : map.get boxes id ≡ Some box
  hosts : host_of (Some box) entry ≡ option_map (made make) entry
  waits : entry ≡ None → IsFresh box
  good_attr : (e : MapEntry) → entry ≡ Some e → IsTrue (good box.attr)

is_box : (boxes : ById Seen) (entries : Entries) (roots : RootsView) (id : ℕ) (make : Make) (entry : Option MapEntry) → IsBuilt boxes entries
    → IsTurnable (ready_of boxes entries roots) (state_of boxes entries roots) id make entry → IsBox boxes entries id make entry
is_box boxes entries roots id make None built t = at (map.get boxes id) (held (entry_at entries id)) refl (sym (get-hosts_of boxes entries id) ∙ t.1)
  where
    at : (b : Option Seen) (e : Option MapEntry) → map.get boxes id ≡ b → host_of b e ≡ Some (made make t.0) → IsBox boxes entries id make None
    at None e is h = cc
    at (Some b) None is h = cc
    at (Some b) (Some e) is h =
        let same : hosted (make_of b) b.contents e ≡ made make t.0 = same_some h in record {
          box = b;
          there = is;
          hosts = refl;
          waits = λ none. ap (λ (m : HostMap). m.contents) same ∙ ap (λ (m : HostMap). fresh m.attr) (sym same);
          good_attr = λ e some. cc;
        }
is_box boxes entries roots id make (Some entry) built t = at (map.get boxes id) (entry_at entries id) refl refl (built.same_ids id) (sym (get-hosts_of boxes entries id) ∙ t.1) (sym (get-mapped (λ id s. make_of s) boxes id) ∙ t.2)
  where
    at : (b : Option Seen) (e : Option (Option MapEntry)) → map.get boxes id ≡ b → entry_at entries id ≡ e → is_some (entry_at entries id) ≡ is_some (map.get boxes id)
        → host_of (map.get boxes id) (held (entry_at entries id)) ≡ None → option_map make_of (map.get boxes id) ≡ Some make → IsBox boxes entries id make (Some entry)
    at b e b_is e_is same absent is = by b e b_is e_is (sym (ap is_some e_is) ∙ same ∙ ap is_some b_is) ((λ i. host_of (sym b_is i) (held (sym e_is i))) ∙ absent) (ap (option_map make_of) (sym b_is) ∙ is)
      where
        by : (b : Option Seen) (e : Option (Option MapEntry)) → map.get boxes id ≡ b → entry_at entries id ≡ e → is_some e ≡ is_some b → host_of b (held e) ≡ None → option_map make_of b ≡ Some make
            → IsBox boxes entries id make (Some entry)
        by None e b_is e_is same absent is = cc
        by (Some b) None b_is e_is same absent is = cc
        by (Some b) (Some (Some e)) b_is e_is same absent is = cc
        by (Some b) (Some None) b_is e_is same absent is = record {
          box = b;
          there = b_is;
          hosts = ap (λ c. Some (hosted (make_of b) c entry)) (built.fresh id b e_is b_is) ∙ ap (λ m. Some (made m entry)) (same_some is);
          waits = λ none. cc;
          good_attr = λ e some. ap (λ (m : Make). good m.attr) (same_some is) ∙ t.0;
        }

pub has_entry : (boxes : ById Seen) (entries : Entries) (roots : RootsView) (id : ℕ) (make : Make) (entry : Option MapEntry) → IsBuilt boxes entries
    → IsTurnable (ready_of boxes entries roots) (state_of boxes entries roots) id make entry → entry_at entries id ≢ None
has_entry boxes entries roots id make entry built t none = cc (sym (ap is_some none) ∙ built.same_ids id ∙ ap is_some (is_box boxes entries roots id make entry built t).there)

module _ (boxes : ById Seen) (old new : Entries) (roots left : RootsView) (id : ℕ) (make : Make) (entry : Option MapEntry) (pin : RootBack) (built : IsBuilt boxes old)
    (t : IsTurnable (ready_of boxes old roots) (state_of boxes old roots) id make entry) (left_is : left ≡ (exchanged roots pin).0) (puts : PutsEntry old new id (Some entry)) where
  b : IsBox boxes old id make entry
  b = is_box boxes old roots id make entry built t

  pub presence_state : state_of boxes new left ≡ part_turned (state_of boxes old roots) (Presence id make entry pin)
  unfolding part_turned
  presence_state = λ i. record {
    maps = (hosts_put boxes old new id entry puts ∙ ap (put_at (hosts_of boxes old) id) (ap (λ o. host_of o entry) b.there ∙ b.hosts)) i;
    progs = same_progs old new puts.1 i;
    pins = (ap (λ (r : RootsView). r.pins) left_is ∙ (same_turning roots pin).0) i;
    devices = (ap (λ (r : RootsView). r.devices) left_is ∙ (same_turning roots pin).1) i;
  }

  entry_was : held (entry_at old id) ≡ option_map entry_of (map.get (hosts_of boxes old) id)
  entry_was = at (held (entry_at old id)) (map.get boxes id) b.there ∙ ap (option_map entry_of) (sym (get-hosts_of boxes old id))
    where
      at : (e : Option MapEntry) (o : Option Seen) → o ≡ Some b.box → e ≡ option_map entry_of (host_of o e)
      at None None is = refl
      at None (Some s) is = refl
      at (Some e) None is = cc
      at (Some e) (Some s) is = refl

  pub presence_undoing : (stood : Option MapEntry) (back : RootBack) → stood ≡ held (entry_at old id) → back ≡ (exchanged roots pin).1 → Presence id make stood back ≡ part_back (state_of boxes old roots) (Presence id make entry pin)
  unfolding part_back
  presence_undoing stood back stood_is back_is = λ i. Presence id make ((stood_is ∙ entry_was) i) ((back_is ∙ (same_turning roots pin).2) i)

  pub presence_ready : ready_of boxes new left ≡ ready_of boxes old roots
  presence_ready = λ i. record { makes = mapped (λ id s. make_of s) boxes; progs = room_stays old new puts.1 i; room = (ap (λ (r : RootsView). r.room) left_is ∙ (same_turning roots pin).3) i }

  pub presence_built : IsBuilt boxes new
  presence_built = record {
    same_ids = λ q. ids q (either q id);
    fresh = λ q s waits at. fresh_at q s waits at (either q id);
    well = built.well;
    bounded = built.bounded;
    good_attr = λ q e s is at. good_at q e s is at (either q id);
  }
    where
      ids : (q : ℕ) → (q ≡ id) ⊎ (eq_by_cmp nat_cmp q id ≡ false) → is_some (entry_at new q) ≡ is_some (map.get boxes q)
      ids q (inl e) = subst (λ q. is_some (entry_at new q) ≡ is_some (map.get boxes q)) (sym e) (ap is_some (entry_here old new id entry puts) ∙ sym (ap is_some b.there))
      ids q (inr apart) = ap is_some (entry_other old new id entry q puts apart) ∙ built.same_ids q

      fresh_at : (q : ℕ) (s : Seen) → entry_at new q ≡ Some None → map.get boxes q ≡ Some s → (q ≡ id) ⊎ (eq_by_cmp nat_cmp q id ≡ false) → IsFresh s
      fresh_at q s waits at (inl e) =
          subst IsFresh (same_some (sym b.there ∙ sym (ap (map.get boxes) e) ∙ at)) (b.waits (same_some (sym (entry_here old new id entry puts) ∙ sym (ap (entry_at new) e) ∙ waits)))
      fresh_at q s waits at (inr apart) = built.fresh q s (sym (entry_other old new id entry q puts apart) ∙ waits) at

      good_at : (q : ℕ) (e : MapEntry) (s : Seen) → entry_at new q ≡ Some (Some e) → map.get boxes q ≡ Some s → (q ≡ id) ⊎ (eq_by_cmp nat_cmp q id ≡ false) → IsTrue (good s.attr)
      good_at q x s is at (inl e) =
          ap (λ (y : Seen). good y.attr) (same_some (sym at ∙ ap (map.get boxes) e ∙ b.there)) ∙ b.good_attr x (same_some (sym (entry_here old new id entry puts) ∙ sym (ap (entry_at new) e) ∙ is))
      good_at q x s is at (inr apart) = built.good_attr q x s (sym (entry_other old new id entry q puts apart) ∙ is) at

-- ---- a program that comes or goes
pub has_prog : (boxes : ById Seen) (entries : Entries) (roots : RootsView) (id : ℕ) (prog : Option HostProg) → IsLoadable (ready_of boxes entries roots) (state_of boxes entries roots) id prog
    → prog_at entries id ≢ None
has_prog boxes entries roots id None t none = cc (sym (ap (λ (o : Option (Option HostProg)). held o) none) ∙ sym (get-progs_of entries id) ∙ t.1)
has_prog boxes entries roots id (Some prog) t none = cc (sym (ap is_some none) ∙ sym (contains-room entries id) ∙ t.1)

-- what is built of the same boxes and entries of maps
pub same_built : (boxes : ById Seen) (old new : Entries) → new.maps ≡ old.maps → IsBuilt boxes old → IsBuilt boxes new
same_built boxes old new same built = record {
  same_ids = λ q. ap (λ (ms : Table MapEntry). is_some (found_in ms q)) same ∙ built.same_ids q;
  fresh = λ q s waits. built.fresh q s (ap (λ (ms : Table MapEntry). found_in ms q) (sym same) ∙ waits);
  well = built.well;
  bounded = built.bounded;
  good_attr = λ q e s is. built.good_attr q e s (ap (λ (ms : Table MapEntry). found_in ms q) (sym same) ∙ is);
}

module _ (boxes : ById Seen) (old new : Entries) (roots left : RootsView) (id : ℕ) (prog : Option HostProg) (pin : RootBack)
    (t : IsLoadable (ready_of boxes old roots) (state_of boxes old roots) id prog) (left_is : left ≡ (exchanged roots pin).0) (puts : PutsProg old new id (Some prog)) where
  pub program_state : state_of boxes new left ≡ part_turned (state_of boxes old roots) (Program id prog pin)
  unfolding part_turned
  program_state = λ i. record {
    maps = same_hosts boxes old new puts.1 i;
    progs = progs_put old new id prog puts i;
    pins = (ap (λ (r : RootsView). r.pins) left_is ∙ (same_turning roots pin).0) i;
    devices = (ap (λ (r : RootsView). r.devices) left_is ∙ (same_turning roots pin).1) i;
  }

  pub program_undoing : (stood : Option HostProg) (back : RootBack) → stood ≡ held (prog_at old id) → back ≡ (exchanged roots pin).1 → Program id stood back ≡ part_back (state_of boxes old roots) (Program id prog pin)
  unfolding part_back
  program_undoing stood back stood_is back_is = λ i. Program id ((stood_is ∙ sym (get-progs_of old id)) i) ((back_is ∙ (same_turning roots pin).2) i)

  pub program_ready : ready_of boxes new left ≡ ready_of boxes old roots
  program_ready = λ i. record {
    makes = mapped (λ id s. make_of s) boxes;
    progs = room_put old new id prog puts (has_prog boxes old roots id prog t) i;
    room = (ap (λ (r : RootsView). r.room) left_is ∙ (same_turning roots pin).3) i;
  }

-- ---- a pin alone
module _ (boxes : ById Seen) (entries : Entries) (roots left : RootsView) (pin : RootBack) (left_is : left ≡ (exchanged roots pin).0) where
  pub pinned_state : state_of boxes entries left ≡ part_turned (state_of boxes entries roots) (Pinned pin)
  unfolding part_turned
  pinned_state = λ i. record {
    maps = hosts_of boxes entries;
    progs = progs_of entries;
    pins = (ap (λ (r : RootsView). r.pins) left_is ∙ (same_turning roots pin).0) i;
    devices = (ap (λ (r : RootsView). r.devices) left_is ∙ (same_turning roots pin).1) i;
  }

  pub pinned_undoing : (back : RootBack) → back ≡ (exchanged roots pin).1 → Pinned back ≡ part_back (state_of boxes entries roots) (Pinned pin)
  unfolding part_back
  pinned_undoing back back_is = ap Pinned (back_is ∙ (same_turning roots pin).2)

  pub pinned_ready : ready_of boxes entries left ≡ ready_of boxes entries roots
  pinned_ready = λ i. record { makes = mapped (λ id s. make_of s) boxes; progs = room_in entries; room = (ap (λ (r : RootsView). r.room) left_is ∙ (same_turning roots pin).3) i }
