-- An exchange of whether a map is frozen joins two states, and what a turning of it leaves.
use Rattle.std.proofs.Common.{◌≡◌, ℕ, Bool, true, false, IsTrue, Option, Some, None, cond, is_some, refl, sym, ap, subst, ◌∙◌}
use Rattle.std.specs.FinMap as map
use Rattle.std.specs.Ordering.{nat_cmp, eq_by_cmp}
use Rattle.std.specs.BTreeMap.{is_at}
use Rattle.std.specs.Option.{option_map_or}
use Rattle.bt_mapkind.specs.Attributes.{good}
use Rattle.bt_mapkind.specs.Seen.{Seen, IsFresh}
use Rattle.bt_objects.specs.Boxes.{ById, make_of}
use Rattle.bt_roots.specs.View.{RootsView}
use Rattle.host_state.specs.declared.entry.MapEntry.{MapEntry}
use Rattle.host_undoing.specs.declared.undoing.Part.TheVariants.{Frozen}
use Rattle.bt_objects.specs.ById.{mapped, ById as IdMap, put_at}
use Rattle.host_state.specs.State.{HostMap, State, hosted}
use Rattle.host_state.specs.Act.{with_frozen}
use Rattle.host_state.specs.World.{Ready}
use Rattle.host_state.specs.Hosts.{Entries, entry_at, held, host_of, hosts_of, state_of, ready_of, PutsEntry, IsBuilt}
use Rattle.host_state.proofs.HostLemmas.{frozen_as, get-hosts_of, hosts_put, same_progs}
use Rattle.host_undoing.specs.Exchange.{part_turned, part_back}
use Rattle.host_undoing.proofs.Parts.{PartJoins, frozen_turned, frozen_back}
use Rattle.host_state.proofs.ByIdLemmas.{same_some, get-put_same, put_twice, put_there, same_of}
use Rattle.host_state.proofs.RoomLemmas.{room_stays}

-- ---- states
turned_there : (s : State) (id : ℕ) (m : HostMap) (frozen : Bool) → map.get s.maps id ≡ Some m → part_turned s (Frozen id frozen) ≡ with_frozen s id m frozen
unfolding part_turned
turned_there s id m frozen there = ap (frozen_turned s id frozen) there

back_there : (s : State) (id : ℕ) (m : HostMap) (frozen : Bool) → map.get s.maps id ≡ Some m → part_back s (Frozen id frozen) ≡ Frozen id m.frozen
unfolding part_back
back_there s id m frozen there = ap (λ o. Frozen id (frozen_back frozen o)) there

-- frozen, and then as before
thawed : (s : State) (id : ℕ) (m : HostMap) (frozen : Bool) → map.get s.maps id ≡ Some m → with_frozen (with_frozen s id m frozen) id (record m { frozen = frozen }) m.frozen ≡ s
thawed s id m frozen there = λ i. record s { maps = (put_twice s.maps id (Some (record m { frozen = frozen })) (Some m) ∙ put_there s.maps id (Some m) there) i }

pub frozen_joins : (ready : Ready) (s : State) (id : ℕ) (m : HostMap) (frozen : Bool) → map.get s.maps id ≡ Some m
    → PartJoins ready s (with_frozen s id m frozen) (Frozen id m.frozen) (Frozen id frozen)
frozen_joins ready s id m frozen there =
    let after = with_frozen s id m frozen in
    let new : HostMap = record m { frozen = frozen } in
    let there_after : map.get after.maps id ≡ Some new = get-put_same s.maps id (Some new) in record {
      back_place = (new, there_after);
      back_state = turned_there after id new m.frozen there_after ∙ thawed s id m frozen there;
      back_face = back_there after id new m.frozen there_after;
      forth_place = (m, there);
      forth_state = turned_there s id m frozen there;
      forth_face = back_there s id m frozen there;
    }

-- ---- the entry of a map
-- a map that is found has its box and its entry
pub record IsHosted (boxes : ById Seen) (entries : Entries) (id : ℕ) (host : HostMap) : Type 0 where
  pub box : Seen
  pub entry : MapEntry
  pub there : map.get boxes id ≡ Some box
  pub entry_there : entry_at entries id ≡ Some (Some entry)
  pub is : host ≡ hosted (make_of box) box.contents entry

hosted_there : (boxes : ById Seen) (entries : Entries) (id : ℕ) (host : HostMap) → map.get (hosts_of boxes entries) id ≡ Some host → IsHosted boxes entries id host
hosted_there boxes entries id host found = at (map.get boxes id) (entry_at entries id) refl refl (sym (get-hosts_of boxes entries id) ∙ found)
  where
    at : (b : Option Seen) (e : Option (Option MapEntry)) → map.get boxes id ≡ b → entry_at entries id ≡ e → host_of b (held e) ≡ Some host → IsHosted boxes entries id host
    at None e b_is e_is h = cc
    at (Some b) None b_is e_is h = cc
    at (Some b) (Some None) b_is e_is h = cc
    at (Some b) (Some (Some entry)) b_is e_is h = record { box = b; entry = entry; there = b_is; entry_there = e_is; is = same_some (sym h) }

module _ (boxes : ById Seen) (old new : Entries) (roots : RootsView) (id : ℕ) (frozen : Bool) (host : HostMap) (built : IsBuilt boxes old) (h : IsHosted boxes old id host)
    (freezes : PutsEntry old new id (frozen_as frozen (entry_at old id))) where
  put : MapEntry
  put = record h.entry { frozen = frozen }

  puts : PutsEntry old new id (Some (Some put))
  unfolding put
  puts = (λ q. freezes.0 q ∙ ap (λ o. cond (is_at (nat_cmp id) q) (frozen_as frozen o) (entry_at old q)) h.entry_there, freezes.1)

  pub here : map.get (state_of boxes old roots).maps id ≡ Some host
  here = get-hosts_of boxes old id ∙ (λ i. host_of (h.there i) (held (h.entry_there i))) ∙ ap Some (sym h.is)

  pub state_is : state_of boxes new roots ≡ with_frozen (state_of boxes old roots) id host frozen
  unfolding put
  state_is = λ i. record {
    maps = (
        hosts_put boxes old new id (Some put) puts
        ∙ ap (λ b. map_put b) h.there
        ∙ ap (λ (m : HostMap). map.insert (hosts_of boxes old) id (record m { frozen = frozen })) (sym h.is)
        ) i;
    progs = same_progs old new puts.1 i;
    pins = roots.pins;
    devices = roots.devices;
  }
    where
      map_put : Option Seen → IdMap HostMap
      map_put b = put_at (hosts_of boxes old) id (host_of b (Some put))

  pub built_after : IsBuilt boxes new
  unfolding put
  built_after = record {
    same_ids = λ q. at_entry q (λ o. is_some o ≡ is_some (map.get boxes q)) (λ e. sym (ap (λ k. is_some (map.get boxes k)) e ∙ ap is_some h.there)) (built.same_ids q);
    fresh = λ q s. at_entry q (λ o. o ≡ Some None → map.get boxes q ≡ Some s → IsFresh s) (λ e waits at. cc) (built.fresh q s);
    well = built.well;
    bounded = built.bounded;
    good_attr = λ q other s. at_entry q (λ o. o ≡ Some (Some other) → map.get boxes q ≡ Some s → IsTrue (good s.attr))
        (λ e is at. built.good_attr id h.entry s h.entry_there (sym (ap (map.get boxes) e) ∙ at)) (built.good_attr q other s);
  }
    where
      at_entry : (q : ℕ) (P : Option (Option MapEntry) → Type 0) → (q ≡ id → P (Some (Some put))) → P (entry_at old q) → P (entry_at new q)
      at_entry q P found other = subst P (sym (puts.0 q)) (cases (eq_by_cmp nat_cmp id q) refl)
        where
          cases : (b : Bool) → eq_by_cmp nat_cmp id q ≡ b → P (cond b (Some (Some put)) (entry_at old q))
          cases true tied = found (sym (same_of id q tied))
          cases false apart = other

-- ---- a turning
abbrev frozen_before : Option MapEntry → Bool → Bool
frozen_before entry frozen = option_map_or (λ (e : MapEntry). e.frozen) entry frozen

module _ (boxes : ById Seen) (old new : Entries) (roots : RootsView) (id : ℕ) (frozen left : Bool) (built : IsBuilt boxes old) (has : (m : HostMap) × (map.get (state_of boxes old roots).maps id ≡ Some m))
    (freezes : PutsEntry old new id (frozen_as frozen (entry_at old id))) (before : left ≡ frozen_before (held (entry_at old id)) frozen) where
  hosted_is : IsHosted boxes old id has.0
  hosted_is = hosted_there boxes old id has.0 has.1

  pub frozen_state : state_of boxes new roots ≡ part_turned (state_of boxes old roots) (Frozen id frozen)
  frozen_state = state_is boxes old new roots id frozen has.0 built hosted_is freezes ∙ sym (turned_there (state_of boxes old roots) id has.0 frozen has.1)

  pub frozen_undoing : Frozen id left ≡ part_back (state_of boxes old roots) (Frozen id frozen)
  frozen_undoing =
      ap (Frozen id) (before ∙ ap (λ o. frozen_before (held o) frozen) hosted_is.entry_there ∙ ap (λ (m : HostMap). m.frozen) (sym hosted_is.is))
      ∙ sym (back_there (state_of boxes old roots) id has.0 frozen has.1)

  pub frozen_built : IsBuilt boxes new
  frozen_built = built_after boxes old new roots id frozen has.0 built hosted_is freezes

pub frozen_ready : (boxes : ById Seen) (old new : Entries) (roots : RootsView) (id : ℕ) (frozen : Bool) → PutsEntry old new id (frozen_as frozen (entry_at old id)) → ready_of boxes new roots ≡ ready_of boxes old roots
frozen_ready boxes old new roots id frozen freezes = λ i. record { makes = mapped (λ id s. make_of s) boxes; progs = room_stays old new freezes.1 i; room = roots.room }
