-- An operation on the map of a world, with what it retires: its undoing joins the two states, and the world stays sound.
use Rattle.std.proofs.Common.{◌≡◌, ◌≤◌, ℕ, Bool, true, false, not, ◌&&◌, IsTrue, [], cond, Contains, Option, Some, None, Ok, Err, IsSome, inl, inr, is_some, refl, sym, ap, subst, ◌∙◌, arith}
use Rattle.std.specs.FinMap as map
use Rattle.std.specs.FinSet as set
use Rattle.bt_mapkind.specs.declared.attr.MapType.{MapType}
use Rattle.bt_mapkind.specs.declared.exchange.Back.{Back}
use Rattle.bt_mapkind.specs.declared.request.MapOp.{MapOp}
use Rattle.bt_mapkind.specs.Attributes.{good}
use Rattle.bt_mapkind.specs.Contents.{Contents as Held}
use Rattle.bt_mapkind.specs.Seen.{Seen, IsFresh}
use Rattle.bt_mapkind.specs.Bounds.{AreBounded}
use Rattle.bt_mapkind.specs.Well.{IsWell}
use Rattle.bt_mapkind.specs.Laws.{IsTurnable}
use Rattle.bt_mapkind.specs.Exchange.{exchange_fits, exchanged}
use Rattle.bt_mapkind.proofs.Stays.{both_true}
use Rattle.bt_objects.specs.Boxes.{ById, make_of}
use Rattle.bt_roots.specs.declared.target.Target.{Target}
use Rattle.bt_roots.specs.declared.target.Target.TheVariants.{Map, Prog}
use Rattle.bt_roots.specs.View.{RootsView}
use Rattle.host_state.specs.declared.entry.MapEntry.{MapEntry}
use Rattle.host_undoing.specs.declared.undoing.Part.TheVariants.{Contents}
use Rattle.host_state.specs.declared.retirement.Retirement.{Retirement}
use Rattle.bt_mapkind.specs.Kept.{Kept, room_of, is_new}
use Rattle.bt_objects.specs.ById.{put_at, mapped}
use Rattle.bt_mapkind.specs.Inner.{holds_ids}
use Rattle.host_state.specs.State.{HostMap, State, hosted}
use Rattle.host_state.specs.Settled.{is_reached, settle, IsSettled, is_live_map, is_live_prog, is_live_in, is_listed, revived, ListsRetired, ids_in, named_in, links_of}
use Rattle.host_state.specs.Act.{with_contents, operated_to}
use Rattle.host_state.specs.Hosts.{Entries, entry_at, prog_at, held, host_of, hosts_of, progs_of, state_of, ready_of, view_of, frozen_of, IsBuilt, IsSound}
use Rattle.host_state.proofs.HostLemmas.{room_in, lives_as, prog_lives_as, hosts_changed, makes_kept, held_some, live_target}
use Rattle.host_undoing.proofs.TurnedLemmas.{FitsBox}
use Rattle.host_operations.proofs.OperationLemmas.{IsOperated, IsLed, is_not_operated, unchanged, well_left}
use Rattle.host_operations.specs.Operated.{OperatesOn, refused_by, Puts, PutsLive}
use Rattle.host_retirement.specs.Gathered.{holds_ids_in, IsRetired, RetiredIf}
use Rattle.host_retirement.proofs.EntryLemmas.{holds_ids_by}
use Rattle.host_undoing.specs.Exchange.{IsBoxTurned, back_of, Joins, concerned}
use Rattle.host_undoing.proofs.Parts.{LivesInOne}
use Rattle.host_state.specs.declared.reply.Reply.{Reply}
use Rattle.bt_mapkind.specs.declared.request.MapFault.{MapFault}
use Rattle.bt_mapkind.specs.declared.request.MapFault.TheVariants.{Errno, NoMemory}
use Rattle.bt_mapkind.specs.Step.{map_step}
use Rattle.host_undoing.specs.Answers.{ExchangesFor, IsDone, Retires, IsUnchanged}
use Rattle.host_state.proofs.ByIdLemmas.{same_some, at_put, get-put_same, put_twice, put_there}
use Rattle.host_state.proofs.SettleLemmas.{settled_contents}
use Rattle.host_retirement.proofs.IdLemmas.{no_ids_in}
use Rattle.host_operations.proofs.OperatedLemmas.{host_there}
use Rattle.host_undoing.proofs.RetiringLemmas.{retiring_joins, settled_retires}
use Rattle.host_state.proofs.RetireLemmas.{none_ascend}
use Rattle.host_state.proofs.RetireLemmas.{settle_revives, revived_settled, settled_lists, first_lives}
use Rattle.host_state.proofs.ReviveLemmas.{revived_state, revived_built, revived_room}
use Rattle.host_state.proofs.LinkedLemmas.{IsMapLink, IsProgLink, from_links, to_links_map, to_links_prog, root_reached, next_reached, all_reached, live_reached, next_live, root_live}
use Rattle.host_operations.proofs.PutLemmas.{ids_after, ids_kept}
use Rattle.bt_roots.specs.Reachable.{IsRoot}
use Rattle.std.specs.Prelude.{◌⊎◌}
use Rattle.host_undoing.proofs.ContentsLemmas.{contents_joins, contents_apart}

-- the entry of a map that is live
pub live_entry : (o : Option MapEntry) → IsSome (frozen_of o) → (entry : MapEntry) × (o ≡ Some entry) × (entry.live ≡ true)
live_entry None t = cc t
live_entry (Some entry) t = by entry.live refl t
  where
    by : (live : Bool) → entry.live ≡ live → IsSome (cond live (Some entry.frozen) None) → (found : MapEntry) × (Some entry ≡ Some found) × (found.live ≡ true)
    by true is t = (entry, refl, is)
    by false is t = cc t

pub entry_lives : (o : Option MapEntry) (entry : MapEntry) → o ≡ Some entry → entry.live ≡ true → IsSome (frozen_of o)
entry_lives o entry is live = ap (λ x. is_some (frozen_of x)) is ∙ ap (λ b. is_some (cond b (Some entry.frozen) None)) live

-- what is there
pub some_there : {X : Type 0} (o : Option X) → IsSome o → (x : X) × (o ≡ Some x)
some_there None t = cc t
some_there (Some x) t = (x, refl)

pub nothing_yet : Retirement
nothing_yet = record { targets = []; live = true }

-- a link is one from this map to what it names
abbrev IsLinkTo : Target → Target → ℕ → MapType → ℕ → Type 0
IsLinkTo from to id kind named = let there : Target × Target = (from, to) in there ≡ (Map id, named_in kind named)

-- what retires is what is listed, in each of the two cases
retired_at : (boxes : ById Seen) (old new : Entries) (roots : RootsView) (retired : Retirement) (takes : Bool) → RetiredIf takes boxes old roots retired new
    → (takes ≡ false → IsSettled (state_of boxes old roots)) → IsRetired boxes old roots retired new
retired_at boxes old new roots retired takes r settled = by takes refl r
  where
    by : (takes_one : Bool) → takes ≡ takes_one → RetiredIf takes_one boxes old roots retired new → IsRetired boxes old roots retired new
    by true is r = r
    by false is (none, live, same) = record {
      lists = subst (ListsRetired (state_of boxes old roots)) (sym none) (settled_lists (state_of boxes old roots) (settled is));
      ascends = none_ascend retired.targets none;
      live = live;
      entries = record {
        maps = λ q. ap (λ es. entry_at es q) same ∙ ap (λ ts. cond (is_listed ts (Map q)) (lives_as false (entry_at old q)) (entry_at old q)) (sym none);
        progs = λ q. ap (λ es. prog_at es q) same ∙ ap (λ ts. cond (is_listed ts (Prog q)) (prog_lives_as false (prog_at old q)) (prog_at old q)) (sym none);
      };
    }

module _ (boxes new : ById Seen) (old entries : Entries) (roots : RootsView) (work left : ℕ) (id : ℕ) (op : MapOp) (reply : Reply) (kept : Kept) (retired : Retirement) (entry : MapEntry)
    (is : held (entry_at old id) ≡ Some entry) (live : entry.live ≡ true) (sound : IsSound boxes old roots) (u : IsOperated boxes id op reply kept new)
    (puts : PutsLive boxes old id op) where
  was : State
  was = state_of boxes old roots

  host : HostMap
  host = hosted (make_of u.before) u.before.contents entry

  here : map.get was.maps id ≡ Some host
  unfolding was host
  here = host_there boxes old id u.before entry u.there is

  entry_is : entry_at old id ≡ Some (Some entry)
  entry_is = held_some (entry_at old id) entry is

  same_make : make_of u.after ≡ make_of u.before
  same_make = λ i. record { attr = u.done.make.attr i; charge = u.done.make.charge i }

  well_after : IsWell u.before.attr u.after.contents
  well_after = well_left u.before.attr u.before.contents u.after.contents op u.told kept.back (sound.built.well id u.before u.there) u.done.step

  -- the state before anything retires
  middle_is : state_of new old roots ≡ with_contents was id host u.after.contents
  unfolding was host
  middle_is = λ i. record {
    maps = (
        ap (λ b. hosts_of b old) u.boxes
        ∙ hosts_changed boxes old id u.after
        ∙ ap (λ e. put_at (hosts_of boxes old) id (host_of (Some u.after) e)) is
        ∙ ap (λ make. put_at (hosts_of boxes old) id (Some (hosted make u.after.contents entry))) same_make
        ) i;
    progs = progs_of old;
    pins = roots.pins;
    devices = roots.devices;
  }

  pub middle_built : IsBuilt new old
  middle_built = record {
    same_ids = λ q. subst (λ b. is_some (entry_at old q) ≡ is_some (map.get b q)) (sym u.boxes)
        (at_put boxes id q (Some u.after) (λ o. is_some (entry_at old q) ≡ is_some o) (λ e. ap (λ k. is_some (entry_at old k)) e ∙ ap is_some entry_is) (sound.built.same_ids q));
    fresh = λ q s waits at. subst (λ b. map.get b q ≡ Some s → IsFresh s) (sym u.boxes)
        (at_put boxes id q (Some u.after) (λ o. o ≡ Some s → IsFresh s) (λ e at. cc (sym (ap (entry_at old) e) ∙ waits, entry_is)) (sound.built.fresh q s waits)) at;
    well = λ q s at. subst (λ b. map.get b q ≡ Some s → IsWell s.attr s.contents) (sym u.boxes)
        (at_put boxes id q (Some u.after) (λ o. o ≡ Some s → IsWell s.attr s.contents)
        (λ e at. subst (λ (x : Seen). IsWell x.attr x.contents) (same_some at) (subst (λ a. IsWell a u.after.contents) (sym u.done.make.attr) well_after)) (sound.built.well q s)) at;
    bounded = λ q s at. subst (λ b. map.get b q ≡ Some s → AreBounded s.contents) (sym u.boxes)
        (at_put boxes id q (Some u.after) (λ o. o ≡ Some s → AreBounded s.contents)
        (λ e at. subst (λ (x : Seen). AreBounded x.contents) (same_some at) (u.bounded (sound.built.bounded id u.before u.there))) (sound.built.bounded q s)) at;
    good_attr = λ q entry s is at. subst (λ b. map.get b q ≡ Some s → IsTrue (good s.attr)) (sym u.boxes)
        (at_put boxes id q (Some u.after) (λ o. o ≡ Some s → IsTrue (good s.attr))
        (λ e at. ap (λ (x : Seen). good x.attr) (sym (same_some at)) ∙ ap good u.done.make.attr ∙ sound.built.good_attr q entry u.before is (ap (map.get boxes) e ∙ u.there)) (sound.built.good_attr q entry s is)) at;
  }

  -- a map of bytes takes nothing along
  settled_bytes : holds_ids_in new id ≡ false → IsSettled (state_of new old roots)
  unfolding was host
  settled_bytes none =
      let bytes : holds_ids u.before.attr.kind ≡ false =
      sym (ap (λ b. holds_ids_by (map.get b id)) u.boxes ∙ ap holds_ids_by (get-put_same boxes id (Some u.after)) ∙ ap (λ a. holds_ids a.kind) u.done.make.attr) ∙ none in
      subst IsSettled (sym middle_is)
      (settled_contents (state_of boxes old roots) id (hosted (make_of u.before) u.before.contents entry) u.after.contents here
      (no_ids_in u.before.attr u.before.contents (sound.built.well id u.before u.there) bytes) (no_ids_in u.before.attr u.after.contents well_after bytes) sound.settled)

  -- what is live there was live before
  live_before : (q : ℕ) → is_live_map (map.get (with_contents was id host u.after.contents).maps q) ≡ is_live_map (map.get was.maps q)
  unfolding host
  live_before q =
      at_put was.maps id q (Some (record host { contents = u.after.contents })) (λ o. is_live_map o ≡ is_live_map (map.get was.maps q)) (λ e. sym (ap (λ k. is_live_map (map.get was.maps k)) e ∙ ap is_live_map here)) refl

  live_in_was : (t : Target) → is_live_in (with_contents was id host u.after.contents) t ≡ is_live_in was t
  live_in_was (Map q) = live_before q
  live_in_was (Prog q) = refl

  -- what is reached there is live there
  middle_only : (t : Target) → IsTrue (is_reached (with_contents was id host u.after.contents) t) → IsTrue (is_live_in (with_contents was id host u.after.contents) t)
  unfolding was host
  middle_only t r = live_in_was t ∙ all_reached middle (λ t. IsTrue (is_live_in (state_of boxes old roots) t)) first next t r
    where
      middle : State
      middle = with_contents (state_of boxes old roots) id (hosted (make_of u.before) u.before.contents entry) u.after.contents

      first : (t : Target) → IsRoot roots.pins roots.devices t → IsTrue (is_live_in (state_of boxes old roots) t)
      first t root = root_live (state_of boxes old roots) sound.settled t root

      named_live : (named : ℕ) → Puts op named → IsTrue (is_live_in (state_of boxes old roots) (named_in u.before.attr.kind named))
      named_live named put = sym (live_target boxes old roots (named_in u.before.attr.kind named) sound.built.same_ids) ∙ puts u.before named u.there put

      -- an id of the map that was operated on
      of_changed : (to : Target) (named : ℕ) → to ≡ named_in u.before.attr.kind named → IsTrue (is_live_in (state_of boxes old roots) (Map id)) → Contains (ids_in u.before.contents) named ⊎ Puts op named
          → IsTrue (is_live_in (state_of boxes old roots) to)
      of_changed to named is live (inl has) =
          subst (λ x. IsTrue (is_live_in (state_of boxes old roots) x)) (sym is)
          (next_live (state_of boxes old roots) sound.settled (Map id) (named_in u.before.attr.kind named) live (to_links_map (state_of boxes old roots) id (hosted (make_of u.before) u.before.contents entry) named here has))
      of_changed to named is live (inr put) = subst (λ x. IsTrue (is_live_in (state_of boxes old roots) x)) (sym is) (named_live named put)

      of_map : (from to : Target) → IsTrue (is_live_in (state_of boxes old roots) from) → (q : ℕ) (m : HostMap) (named : ℕ) → map.get middle.maps q ≡ Some m → Contains (ids_in m.contents) named
          → IsLinkTo from to q m.attr.kind named → IsTrue (is_live_in (state_of boxes old roots) to)
      of_map from to live q m named =
          at_put (hosts_of boxes old) id q (Some (record (hosted (make_of u.before) u.before.contents entry) { contents = u.after.contents }))
          (λ o. o ≡ Some m → Contains (ids_in m.contents) named → IsLinkTo from to q m.attr.kind named → IsTrue (is_live_in (state_of boxes old roots) to))
          (λ at found has is.
          let same = same_some found in
          of_changed to named (ap (λ (x : Target × Target). x.1) is ∙ ap (λ (x : HostMap). named_in x.attr.kind named) (sym same))
          (subst (λ x. IsTrue (is_live_in (state_of boxes old roots) x)) (ap (λ (x : Target × Target). x.0) is ∙ ap Map at) live)
          (ids_after u.before.attr u.before.contents op (record { contents = u.after.contents; reply = u.told; back = kept.back }) (sound.built.well id u.before u.there) u.done.step named
          (subst (λ (x : HostMap). Contains (ids_in x.contents) named) (sym same) has)))
          (λ found has is.
          subst (λ x. IsTrue (is_live_in (state_of boxes old roots) x)) (sym (ap (λ (x : Target × Target). x.1) is))
          (next_live (state_of boxes old roots) sound.settled (Map q) (named_in m.attr.kind named) (subst (λ x. IsTrue (is_live_in (state_of boxes old roots) x)) (ap (λ (x : Target × Target). x.0) is) live)
          (to_links_map (state_of boxes old roots) q m named found has)))

      next : (from to : Target) → IsTrue (is_live_in (state_of boxes old roots) from) → Contains (links_of middle) (from, to) → IsTrue (is_live_in (state_of boxes old roots) to)
      next from to live there = by (from_links middle (from, to) there)
        where
          by : IsProgLink middle (from, to) ⊎ IsMapLink middle (from, to) → IsTrue (is_live_in (state_of boxes old roots) to)
          by (inl l) =
              subst (λ x. IsTrue (is_live_in (state_of boxes old roots) x)) (sym (ap (λ (x : Target × Target). x.1) l.is))
              (next_live (state_of boxes old roots) sound.settled (Prog l.id) (Map l.named) (subst (λ x. IsTrue (is_live_in (state_of boxes old roots) x)) (ap (λ (x : Target × Target). x.0) l.is) live)
              (to_links_prog (state_of boxes old roots) l.id l.prog l.named l.there l.has))
          by (inr l) = of_map from to live l.id l.host l.named l.there l.has l.is

  -- ---- nothing is taken away
  module _ (adds : is_new kept.back ≡ true) where
    kept_ids : (n : ℕ) → Contains (ids_in u.before.contents) n → Contains (ids_in u.after.contents) n
    kept_ids n has = ids_kept u.before.attr u.before.contents op (record { contents = u.after.contents; reply = u.told; back = kept.back }) u.done.step adds n has

    -- a map has the ids that it had
    HasStill : HostMap → Option HostMap → Type 0
    HasStill m o = (found : HostMap) × (o ≡ Some found) × (found.attr ≡ m.attr) × ((n : ℕ) → Contains (ids_in m.contents) n → Contains (ids_in found.contents) n)

    has_still : (q : ℕ) (m : HostMap) → map.get was.maps q ≡ Some m → HasStill m (map.get (with_contents was id host u.after.contents).maps q)
    unfolding host HasStill
    has_still q m there =
        at_put was.maps id q (Some (record (hosted (make_of u.before) u.before.contents entry) { contents = u.after.contents })) (HasStill m)
        (λ at.
        let same : hosted (make_of u.before) u.before.contents entry ≡ m = same_some (sym here ∙ ap (map.get was.maps) (sym at) ∙ there) in (
          record (hosted (make_of u.before) u.before.contents entry) { contents = u.after.contents },
          refl,
          ap (λ (x : HostMap). x.attr) same,
          λ n has. kept_ids n (subst (λ (x : HostMap). Contains (ids_in x.contents) n) (sym same) has),
        ))
        (m, there, refl, λ n has. has)

    -- so each link is there still, and each object that was reached is reached
    link_still : (l : Target × Target) → Contains (links_of was) l → Contains (links_of (with_contents was id host u.after.contents)) l
    unfolding HasStill
    link_still l there = by (from_links was l there)
      where
        by : IsProgLink was l ⊎ IsMapLink was l → Contains (links_of (with_contents was id host u.after.contents)) l
        by (inl p) = subst (Contains (links_of (with_contents was id host u.after.contents))) (sym p.is) (to_links_prog (with_contents was id host u.after.contents) p.id p.prog p.named p.there p.has)
        by (inr m) =
            let found = has_still m.id m.host m.there in
            subst (Contains (links_of (with_contents was id host u.after.contents)))
            (ap (λ a. (Map m.id, named_in a.kind m.named)) found.2 ∙ sym m.is)
            (to_links_map (with_contents was id host u.after.contents) m.id found.0 m.named found.1 (found.3 m.named m.has))

    reached_still : (t : Target) → IsTrue (is_reached was t) → IsTrue (is_reached (with_contents was id host u.after.contents) t)
    reached_still t reached =
        all_reached was (λ t. IsTrue (is_reached (with_contents was id host u.after.contents) t))
        (λ t root. root_reached (with_contents was id host u.after.contents) t root)
        (λ from to reached there. next_reached (with_contents was id host u.after.contents) from to reached (link_still (from, to) there)) t reached

    live_reached_still : (t : Target) → IsTrue (is_live_in (with_contents was id host u.after.contents) t) → IsTrue (is_reached (with_contents was id host u.after.contents) t)
    unfolding was
    live_reached_still t live = reached_still t (live_reached was sound.settled t (sym (live_in_was t) ∙ live))

    settled_added : IsSettled (state_of new old roots)
    settled_added =
        subst IsSettled (sym middle_is)
        (record {
          maps = λ q m there live. live_reached_still (Map q) (ap is_live_map there ∙ live);
          progs = λ q p there live. live_reached_still (Prog q) (ap is_live_prog there ∙ live);
          only = middle_only;
        })

  settled_middle : (holds_ids_in new id && not (is_new kept.back)) ≡ false → IsSettled (state_of new old roots)
  settled_middle none = by (holds_ids_in new id) (is_new kept.back) refl refl none
    where
      by : (ids adds : Bool) → holds_ids_in new id ≡ ids → is_new kept.back ≡ adds → (ids && not adds) ≡ false → IsSettled (state_of new old roots)
      by false adds bytes is none = settled_bytes bytes
      by true true ids is none = settled_added is
      by true false ids is none = cc

  pub retires_so : (takes : Bool) → takes ≡ (holds_ids_in new id && not (is_new kept.back)) → RetiredIf takes new old roots retired entries → IsRetired new old roots retired entries
  retires_so takes is r = retired_at new old entries roots retired takes r (λ none. settled_middle (sym is ∙ none))

  module _ (r : IsRetired new old roots retired entries) where
    lists : ListsRetired (with_contents was id host u.after.contents) retired.targets
    lists = subst (λ s. ListsRetired s retired.targets) middle_is r.lists

    were : (t : Target) → IsTrue (is_listed retired.targets t) → IsTrue (is_live_in was t)
    were t listed =
        let s = with_contents was id host u.after.contents in
        sym (live_in_was t) ∙ (both_true (is_live_in s t) (not (is_reached s t)) (sym (lists t) ∙ listed)).0

    after_is : state_of new entries roots ≡ settle (with_contents was id host u.after.contents)
    after_is =
        revived_state new old entries retired.targets false r.entries roots
        ∙ ap (λ s. revived s retired.targets false) middle_is
        ∙ sym (settle_revives (with_contents was id host u.after.contents) retired.targets lists)

    turnable : IsTurnable host.attr u.after.contents kept.back
    unfolding host
    turnable = record { well = well_after; fits = subst (λ a. exchange_fits a u.after.contents kept.back ≡ true) u.done.make.attr u.done.fits }

    enough : room_of host.attr ≤ kept.room
    unfolding host
    enough = subst (λ n. room_of u.before.attr ≤ n) (sym u.room) (omega arith)

    restores : (exchanged u.after.contents kept.back).0 ≡ host.contents
    unfolding host
    restores = u.done.restores

    touched : (t : Target) → concerned (Contents id kept) ≡ Some t → LivesInOne was (revived (with_contents was id host u.after.contents) retired.targets false) t
    unfolding host
    touched t e =
        let after : State = revived (with_contents was id host u.after.contents) retired.targets false in
        subst (LivesInOne was after) (same_some e) (first_lives (is_live_in was (Map id)) (is_live_in after (Map id)) (ap is_live_map here ∙ live))

    joined : Joins (ready_of new entries roots) was (settle (with_contents was id host u.after.contents)) (record { part = Contents id kept; retired = retired })
        (back_of (settle (with_contents was id host u.after.contents)) (record { part = Contents id kept; retired = retired }))
    unfolding was
    joined =
        retiring_joins (ready_of new entries roots) (state_of boxes old roots) (with_contents (state_of boxes old roots) id host u.after.contents) (Contents id kept)
        (Contents id (record kept { back = (exchanged u.after.contents kept.back).1 })) retired
        (contents_joins (ready_of new entries roots) (state_of boxes old roots) id host kept u.after.contents here turnable restores enough) lists r.live were
        (contents_apart (ready_of new entries roots) (with_contents (state_of boxes old roots) id host u.after.contents) id (record host { contents = u.after.contents }) kept retired.targets
        (get-put_same (hosts_of boxes old) id (Some (record host { contents = u.after.contents }))) turnable.fits enough)
        middle_only sound.settled touched

    only_middle : (t : Target) → IsTrue (is_reached (state_of new old roots) t) → IsTrue (is_live_in (state_of new old roots) t)
    only_middle = subst (λ s. (t : Target) → IsTrue (is_reached s t) → IsTrue (is_live_in s t)) (sym middle_is) middle_only

    pub done_sound : IsSound new entries roots
    unfolding was
    done_sound = record {
      built = revived_built new old entries retired.targets false r.entries middle_built;
      settled = subst IsSettled (sym (revived_state new old entries retired.targets false r.entries roots)) (revived_settled (state_of new old roots) retired.targets r.lists only_middle);
    }

    done_as : IsDone (operated_to was id host op (map_step host.attr host.contents op)) (ExchangesFor was id op) (view_of boxes old roots work) reply (record { part = Contents id kept; retired = retired }) (view_of new entries roots left)
    unfolding was host
    done_as = record {
      acts = ap (operated_to (state_of boxes old roots) id (hosted (make_of u.before) u.before.contents entry) op) u.done.step ∙ (λ i. Ok (sym after_is i, u.reply_is i));
      joins = subst (λ s. Joins (ready_of new entries roots) (state_of boxes old roots) s (record { part = Contents id kept; retired = retired }) (back_of s (record { part = Contents id kept; retired = retired })))
          (sym after_is) joined;
      own = record { host = hosted (make_of u.before) u.before.contents entry; there = here; changed = record { contents = u.after.contents; reply = u.told; back = kept.back }; step = u.done.step; room = kept.room; is = refl };
      retires = subst (λ s. Retires (state_of boxes old roots) s retired) (sym after_is)
          (settled_retires (state_of boxes old roots) (with_contents (state_of boxes old roots) id (hosted (make_of u.before) u.before.contents entry) u.after.contents) retired lists r.ascends r.live live_in_was);
      boxes = record { makes = ap (mapped (λ id s. make_of s)) u.boxes ∙ makes_kept boxes id u.before u.after u.there same_make; progs = λ q there. ap (λ rs. set.contains rs q) (revived_room new old entries retired.targets false r.entries) ∙ there; room = λ path there. there };
    }

    pub done_on : OperatesOn (view_of boxes old roots work) id op (Ok (reply, record { part = Contents id kept; retired = retired })) (view_of new entries roots left)
    unfolding was host
    done_on = (hosted (make_of u.before) u.before.contents entry, here, done_as)

  -- ---- an operation that is taken back
  pub fits_back : FitsBox new id kept
  fits_back = (
    u.after,
    ap (λ b. map.get b id) u.boxes ∙ get-put_same boxes id (Some u.after),
    record {
      fits = u.done.fits;
      room = subst (λ a. room_of a ≤ kept.room) (sym u.done.make.attr) (subst (λ n. room_of u.before.attr ≤ n) (sym u.room) (omega arith));
    },
  )

  pub back_in_place : (turned : ById Seen) (left_kept : Kept) → IsBoxTurned new id kept turned left_kept → turned ≡ boxes
  back_in_place turned left_kept v =
      v.boxes ∙ ap (λ b. map.insert b id v.after) u.boxes ∙ put_twice boxes id (Some u.after) (Some v.after) ∙ ap (map.insert boxes id) as_before ∙ put_there boxes id (Some u.before) u.there
    where
      found : v.before ≡ u.after
      found = same_some (sym v.there ∙ ap (λ b. map.get b id) u.boxes ∙ get-put_same boxes id (Some u.after))

      contents : v.after.contents ≡ u.before.contents
      contents = ap (λ (p : Held × Back). p.0) (sym v.turned.exchange) ∙ ap (λ (s : Seen). (exchanged s.contents kept.back).0) found ∙ u.done.restores

      as_before : v.after ≡ u.before
      as_before = λ i. record {
        attr = (v.turned.make.attr ∙ ap (λ (s : Seen). s.attr) found ∙ u.done.make.attr) i;
        contents = contents i;
        charge = (v.turned.make.charge ∙ ap (λ (s : Seen). s.charge) found ∙ u.done.make.charge) i;
        roomy = (v.turned.make.roomy ∙ ap (λ (s : Seen). s.roomy) found ∙ u.done.make.roomy) i;
      }

-- ---- an operation that is refused, or taken back
pub same_host : (old new : ById Seen) (before entries : Entries) (roots : RootsView) (work left : ℕ) → new ≡ old → entries ≡ before → IsUnchanged (view_of old before roots work) (view_of new entries roots left)
same_host old new before entries roots work left same same_entries = record {
  state = λ i. state_of (same i) (same_entries i) roots;
  boxes = record { makes = ap (mapped (λ id s. make_of s)) same; progs = λ q there. ap (λ (es : Entries). set.contains (room_in es) q) same_entries ∙ there; room = λ path there. there };
}

pub same_sound : (old new : ById Seen) (before entries : Entries) (roots : RootsView) → new ≡ old → entries ≡ before → IsSound old before roots → IsSound new entries roots
same_sound old new before entries roots same same_entries = subst (λ (x : ById Seen × Entries). IsSound x.0 x.1 roots) (λ i. (sym same i, sym same_entries i))

pub refused_same : (old new : ById Seen) (id : ℕ) (op : MapOp) (fault : MapFault) → IsLed old new id op (Err fault) → new ≡ old
refused_same old new id op (Errno errno) l = (is_not_operated old new id op errno l).same
refused_same old new id op NoMemory l = unchanged old new id op l

pub refused_as : (old new : ById Seen) (entries : Entries) (roots : RootsView) (work left : ℕ) (id : ℕ) (op : MapOp) (fault : MapFault) (entry : MapEntry) → held (entry_at entries id) ≡ Some entry
    → IsLed old new id op (Err fault) → OperatesOn (view_of old entries roots work) id op (Err (refused_by fault)) (view_of new entries roots left)
refused_as old new entries roots work left id op (Errno errno) entry is l =
    let n = is_not_operated old new id op errno l in (
      hosted (make_of n.before) n.before.contents entry,
      host_there old entries id n.before entry n.there is,
      n.told,
      same_host old new entries entries roots work left n.same refl,
    )
refused_as old new entries roots work left id op NoMemory entry is l = same_host old new entries entries roots work left (unchanged old new id op l) refl
