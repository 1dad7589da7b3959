-- An undoing of one key of a map of bytes, turned: it is of the same key, writes the same, and can be turned again.
use Rattle.std.proofs.Common.{◌≡◌, ◌≤◌, ℕ, Bool, true, false, not, List, [], ◌∷◌, ◌++◌, Option, Some, None, refl, sym, ap, subst, ◌∙◌}
use Rattle.std.specs.Option.{option_map_or}
use Rattle.std.specs.FinMap as map
use Rattle.bt_mapkind.specs.declared.exchange.Back.{Back}
use Rattle.bt_mapkind.specs.declared.exchange.Back.TheVariants.{Key, Ends, Link}
use Rattle.bt_mapkind.specs.Contents.{Contents as Held, Values, Entries, Items, Slots, Links}
use Rattle.bt_mapkind.specs.Exchange.{exchange_fits, exchanged}
use Rattle.bt_mapkind.specs.Kept.{Kept, is_keyed, IsByteKey}
use Rattle.bt_mapkind.specs.Laws.{IsTurnable}
use Rattle.bt_mapkind.proofs.Stays.{stays}
use Rattle.bt_mapkind.proofs.Twice.{twice}
use Rattle.bt_roots.specs.declared.target.Target.{Target}
use Rattle.host_state.specs.declared.change.Change.{Change}
use Rattle.host_state.specs.declared.change.Change.TheVariants.{Create, Operate, Freeze, Link as LinkChange, Load, Pin, Unpin, Attach, Detach}
use Rattle.host_state.specs.State.{HostMap, State}
use Rattle.host_state.specs.Settled.{IsSettled, revived}
use Rattle.host_state.specs.Act.{with_contents}
use Rattle.host_state.specs.World.{Ready}
use Rattle.host_state.proofs.ByIdLemmas.{get-put_same, put_there, put_twice}
use Rattle.host_undoing.specs.declared.undoing.Part.{Part}
use Rattle.host_undoing.specs.declared.undoing.Part.TheVariants.{Contents, Frozen, Presence, Program, Pinned}
use Rattle.host_undoing.specs.declared.undoing.Undoing.{Undoing}
use Rattle.host_undoing.specs.Exchange.{part_turned, part_back, turned, back_of, FitsPlace, Fits}
use Rattle.host_undoing.proofs.ContentsLemmas.{turned_there, back_there}
use Rattle.host_undoing.proofs.Parts.{contents_back}
use Rattle.host_apart.specs.Alike.{HasByteKey}
use Rattle.host_apart.specs.Laws.{AreWell}
use Rattle.host_apart.specs.Spots.{written_in, written, back_of_part, is_keyed_back, are_apart, any_meet, touched}
use Rattle.host_state.proofs.RetireLemmas.{revived_none}

-- ---- the same key
-- an exchange gives back one of the same form, and of the same key if it has one
key_stays : (c : Held) (key : List ℕ) (value : Option (List ℕ)) → (left : Option (List ℕ)) × ((exchanged c (Key key value)).1 ≡ Key key left)
key_stays (Values vs) key None = (None, refl)
key_stays (Values vs) key (Some value) = (_, refl)
key_stays (Entries m) key value = (_, refl)
key_stays (Items xs) key value = (value, refl)
key_stays (Slots ls) key value = (value, refl)
key_stays (Links m) key value = (value, refl)

-- two parts that exchange one key of one map
record IsSameKey (p q : Part) : Type 0 where
  id : ℕ
  key : List ℕ
  first : Option (List ℕ)
  second : Option (List ℕ)
  room : ℕ
  first_is : p ≡ Contents id (record { back = Key key first; room = room })
  second_is : q ≡ Contents id (record { back = Key key second; room = room })

same_key : (s : State) (p : Part) → is_keyed_back (back_of_part p) ≡ true → IsSameKey p (part_back s p)
unfolding part_back
same_key s (Contents id k) keyed = by k.back refl keyed
  where
    at : (key : List ℕ) (value : Option (List ℕ)) → k.back ≡ Key key value → (o : Option HostMap)
        → IsSameKey (Contents id (record { back = Key key value; room = k.room })) (Contents id (contents_back (record { back = Key key value; room = k.room }) o))
    at key value is None = record { id = id; key = key; first = value; second = value; room = k.room; first_is = refl; second_is = refl }
    at key value is (Some m) =
        let left = key_stays m.contents key value in
        record { id = id; key = key; first = value; second = left.0; room = k.room; first_is = refl; second_is = λ i. Contents id (record { back = left.1 i; room = k.room }) }

    by : (b : Back) → k.back ≡ b → is_keyed b ≡ true → IsSameKey (Contents id k) (Contents id (contents_back k (map.get s.maps id)))
    by (Key key value) is h =
        let whole : ◌≡◌ {A = Kept} (record { back = Key key value; room = k.room }) k = λ i. record { back = sym is i; room = k.room } in
        subst (λ (x : Kept). IsSameKey (Contents id x) (Contents id (contents_back x (map.get s.maps id)))) whole (at key value is (map.get s.maps id))
    by (Ends _ _ _ _) is h = cc
    by (Link _ _) is h = cc
same_key s (Frozen id frozen) keyed = cc
same_key s (Presence id make entry pin) keyed = cc
same_key s (Program id prog pin) keyed = cc
same_key s (Pinned pin) keyed = cc

pub keyed_turned : (s : State) (u : Undoing) → is_keyed_back (back_of_part u.part) ≡ true → is_keyed_back (back_of_part (back_of s u).part) ≡ true
unfolding back_of
keyed_turned s u keyed = ap (λ (p : Part). is_keyed_back (back_of_part p)) (same_key s u.part keyed).second_is

bytes_stay : (c : Held) (b : Back) → IsByteKey b → IsByteKey (exchanged c b).1
bytes_stay (Values vs) (Key key None) bytes = bytes
bytes_stay (Values vs) (Key key (Some value)) bytes = bytes
bytes_stay (Values vs) (Ends _ _ _ _) bytes = tt
bytes_stay (Values vs) (Link _ _) bytes = tt
bytes_stay (Entries m) (Key key value) bytes = bytes
bytes_stay (Entries m) (Ends _ _ _ _) bytes = tt
bytes_stay (Entries m) (Link _ _) bytes = tt
bytes_stay (Items xs) (Key key value) bytes = bytes
bytes_stay (Items xs) (Ends _ _ _ _) bytes = tt
bytes_stay (Items xs) (Link _ _) bytes = tt
bytes_stay (Slots ls) (Key key value) bytes = bytes
bytes_stay (Slots ls) (Ends _ _ _ _) bytes = tt
bytes_stay (Slots ls) (Link _ _) bytes = tt
bytes_stay (Links m) (Key key value) bytes = bytes
bytes_stay (Links m) (Ends _ _ _ _) bytes = tt
bytes_stay (Links m) (Link _ _) bytes = tt

part_bytes : (s : State) (p : Part) → HasByteKey p → HasByteKey (part_back s p)
unfolding part_back
part_bytes s (Contents id k) bytes = by (map.get s.maps id)
  where
    by : (o : Option HostMap) → IsByteKey (contents_back k o).back
    by None = bytes
    by (Some m) = bytes_stay m.contents k.back bytes
part_bytes s (Frozen id frozen) bytes = tt
part_bytes s (Presence id make entry pin) bytes = tt
part_bytes s (Program id prog pin) bytes = tt
part_bytes s (Pinned pin) bytes = tt

pub bytes_turned : (s : State) (u : Undoing) → HasByteKey u.part → HasByteKey (back_of s u).part
unfolding back_of
bytes_turned s u bytes = part_bytes s u.part bytes

-- what a change writes does not depend on the value
same_written : (change : Change) (key : List ℕ) (first second : Option (List ℕ)) → written change (Some (Key key first)) ≡ written change (Some (Key key second))
same_written (Create id attr charge name path template) key first second = refl
same_written (Operate origin id op) key first second = refl
same_written (Freeze id) key first second = refl
same_written (LinkChange id key named flag) other first second = refl
same_written (Load id code name path) key first second = refl
same_written (Pin target path) key first second = refl
same_written (Unpin path) key first second = refl
same_written (Attach prog device overwrite) key first second = refl
same_written (Detach device) key first second = refl

pub apart_turned : (s : State) (change later : Change) (u : Undoing) (part : Part) → is_keyed_back (back_of_part u.part) ≡ true → are_apart change (back_of s u).part later part ≡ are_apart change u.part later part
unfolding back_of
apart_turned s change later u part keyed =
    let h : IsSameKey u.part (part_back s u.part) = same_key s u.part keyed in
    let same : written change (back_of_part (part_back s u.part)) ≡ written change (back_of_part u.part) =
    ap (λ (p : Part). written change (back_of_part p)) h.second_is ∙ same_written change h.key h.second h.first ∙ sym (ap (λ (p : Part). written change (back_of_part p)) h.first_is) in
    ap (λ spots. not (any_meet spots (touched later (back_of_part part)))) same

-- ---- turned again
not_twice : (b : Bool) → not (not b) ≡ b
not_twice true = refl
not_twice false = refl

-- an exchange of one key is turned, and its other face leads back
pub record TurnsAgain (ready : Ready) (s : State) (u : Undoing) : Type 0 where
  pub fits : Fits ready (turned s u) (back_of s u)
  pub state : turned (turned s u) (back_of s u) ≡ s
  pub face : back_of (turned s u) (back_of s u) ≡ u

module _ (ready : Ready) (s : State) (id : ℕ) (k : Kept) (well : AreWell s) (place : FitsPlace ready s (Contents id k)) where
  abbrev m : HostMap
  m = place.0

  abbrev left : Held
  left = (exchanged m.contents k.back).0

  abbrev other : Kept
  other = record k { back = (exchanged m.contents k.back).1 }

  abbrev t : State
  t = with_contents s id m left

  there : map.get t.maps id ≡ Some (record m { contents = left })
  there = get-put_same s.maps id (Some (record m { contents = left }))

  again : exchanged left other.back ≡ (m.contents, k.back)
  again = twice m.attr m.contents k.back place.2.fits

  pub part_fits : FitsPlace ready (part_turned s (Contents id k)) (part_back s (Contents id k))
  part_fits =
      subst (λ (x : State × Part). FitsPlace ready x.0 x.1) (λ i. (sym (turned_there s id m k place.1) i, sym (back_there s id m k place.1) i))
      (record m { contents = left }, there, record { fits = (stays m.attr m.contents k.back (record { well = (well id m place.1).0; fits = place.2.fits })).fits; room = place.2.room })

  pub part_state : part_turned (part_turned s (Contents id k)) (part_back s (Contents id k)) ≡ s
  part_state =
      (λ i. part_turned (turned_there s id m k place.1 i) (back_there s id m k place.1 i))
      ∙ turned_there t id (record m { contents = left }) other there
      ∙ ap (λ (p : Held × Back). with_contents t id (record m { contents = left }) p.0) again
      ∙ (λ i. record s { maps = (put_twice s.maps id (Some (record m { contents = left })) (Some m) ∙ put_there s.maps id (Some m) place.1) i })

  pub part_face : part_back (part_turned s (Contents id k)) (part_back s (Contents id k)) ≡ Contents id k
  part_face =
      (λ i. part_back (turned_there s id m k place.1 i) (back_there s id m k place.1 i))
      ∙ back_there t id (record m { contents = left }) other there
      ∙ ap (λ (p : Held × Back). Contents id (record k { back = p.1 })) again

pub turns_again : (ready : Ready) (s : State) (u : Undoing) (id : ℕ) (k : Kept) → u.part ≡ Contents id k → u.retired.targets ≡ [] → AreWell s → IsSettled s → Fits ready s u → TurnsAgain ready s u
unfolding turned back_of
turns_again ready s u id k is none well settled f =
    let place : FitsPlace ready s (Contents id k) = subst (FitsPlace ready s) is f.place in
    let plain : turned s u ≡ part_turned s u.part = (λ i. revived (part_turned s u.part) (none i) u.retired.live) ∙ revived_none (part_turned s u.part) u.retired.live in
    let state : turned (turned s u) (back_of s u) ≡ s =
    (λ i. revived (part_turned (plain i) (part_back s u.part)) (none i) (not u.retired.live))
    ∙ revived_none (part_turned (part_turned s u.part) (part_back s u.part)) (not u.retired.live)
    ∙ (λ i. part_turned (part_turned s (is i)) (part_back s (is i)))
    ∙ part_state ready s id k well place in
    record {
      fits = record {
        place = subst (λ v. FitsPlace ready v (part_back s u.part)) (sym plain) (subst (λ p. FitsPlace ready (part_turned s p) (part_back s p)) (sym is) (part_fits ready s id k well place));
        settled = subst IsSettled (sym state) settled;
      };
      state = state;
      face =
          let part : part_back (turned s u) (part_back s u.part) ≡ u.part =
          ap (λ v. part_back v (part_back s u.part)) plain ∙ (λ i. part_back (part_turned s (is i)) (part_back s (is i))) ∙ part_face ready s id k well place ∙ sym is in
          λ i. record { part = part i; retired = record u.retired { live = not_twice u.retired.live i } };
    }
