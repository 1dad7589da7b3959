-- An undoing that joins two states joins what is left of them when objects that are live in neither are dropped.
use Rattle.std.proofs.Common.{◌≡◌, ℕ, Bool, true, false, ◌&&◌, ◌||◌, List, Option, Some, None, refl, sym, ap, subst, ◌∙◌}
use Rattle.std.specs.Option.{option_map}
use Rattle.std.specs.FinMap as map
use Rattle.std.specs.FinMap.{nat_cmp-IsAntisymmetric}
use Rattle.std.specs.FinSet as set
use Rattle.bt_objects.specs.Ids.{is_among}
use Rattle.bt_roots.specs.declared.target.Target.{Target}
use Rattle.bt_roots.specs.declared.target.Target.TheVariants.{Map, Prog}
use Rattle.bt_mapkind.specs.Exchange.{exchanged}
use Rattle.host_undoing.specs.declared.undoing.Part.{Part}
use Rattle.host_undoing.specs.declared.undoing.Part.TheVariants.{Contents, Frozen, Presence, Program, Pinned}
use Rattle.host_state.specs.State.{HostMap, State, made, entry_of}
use Rattle.host_state.specs.Settled.{IsSettled, is_live_in, revived}
use Rattle.host_state.specs.World.{Ready, ListsLive, kept_state, kept_ready}
use Rattle.host_undoing.specs.declared.undoing.Undoing.{Undoing}
use Rattle.host_undoing.specs.Exchange.{part_turned, part_back, turned, back_of, roots_turned, FitsPlace, Joins, TouchesLive, concerned}
use Rattle.host_undoing.proofs.Parts.{LivesInOne, contents_turned, contents_back, frozen_turned, frozen_back}
use Rattle.host_state.proofs.RetireLemmas.{map_revived, prog_revived}
use Rattle.host_state.proofs.KeptLemmas.{here_kept, kept_put, kept_mapped, Stays, live_stays, same_live, settled_kept}
use Rattle.host_undoing.proofs.JoinsLemmas.{touches_forth}

module _ (maps progs : List ℕ) where
  abbrev kept : State → State
  kept s = kept_state maps progs s

  -- ---- a turning of what stays
  abbrev pub ConcernedStays : Part → Type 0
  ConcernedStays u = (t : Target) → concerned u ≡ Some t → Stays maps progs t

  part_kept : (s : State) (u : Part) → ConcernedStays u → part_turned (kept s) u ≡ kept (part_turned s u)
  unfolding part_turned
  part_kept s (Contents id k) stays = ap (contents_turned (kept s) id k.back) (here_kept maps s.maps id (stays (Map id) refl)) ∙ by (map.get s.maps id)
    where
      by : (o : Option HostMap) → contents_turned (kept s) id k.back o ≡ kept (contents_turned s id k.back o)
      by None = refl
      by (Some m) = λ i. record (kept s) { maps = sym (kept_put maps s.maps id (Some (record m { contents = (exchanged m.contents k.back).0 })) (stays (Map id) refl)) i }
  part_kept s (Frozen id frozen) stays = ap (frozen_turned (kept s) id frozen) (here_kept maps s.maps id (stays (Map id) refl)) ∙ by (map.get s.maps id)
    where
      by : (o : Option HostMap) → frozen_turned (kept s) id frozen o ≡ kept (frozen_turned s id frozen o)
      by None = refl
      by (Some m) = λ i. record (kept s) { maps = sym (kept_put maps s.maps id (Some (record m { frozen = frozen })) (stays (Map id) refl)) i }
  part_kept s (Presence id make entry pin) stays = λ i. record (kept s) {
    maps = sym (kept_put maps s.maps id (option_map (made make) entry) (stays (Map id) refl)) i;
    pins = (roots_turned s pin).0.pins;
    devices = (roots_turned s pin).0.devices;
  }
  part_kept s (Program id prog pin) stays = λ i. record (kept s) {
    progs = sym (kept_put progs s.progs id prog (stays (Prog id) refl)) i;
    pins = (roots_turned s pin).0.pins;
    devices = (roots_turned s pin).0.devices;
  }
  part_kept s (Pinned pin) stays = refl

  revived_kept : (s : State) (targets : List Target) (live : Bool) → revived (kept s) targets live ≡ kept (revived s targets live)
  unfolding revived
  revived_kept s targets live = λ i. record (kept s) {
    maps = sym (kept_mapped maps (map_revived targets live) s.maps) i;
    progs = sym (kept_mapped progs (prog_revived targets live) s.progs) i;
  }

  turned_kept : (s : State) (u : Undoing) → ConcernedStays u.part → turned (kept s) u ≡ kept (turned s u)
  unfolding turned
  turned_kept s u stays = ap (λ x. revived x u.retired.targets u.retired.live) (part_kept s u.part stays) ∙ revived_kept (part_turned s u.part) u.retired.targets u.retired.live

  same_back : (s : State) (u : Part) → ConcernedStays u → part_back (kept s) u ≡ part_back s u
  unfolding part_back
  same_back s (Contents id k) stays = ap (λ o. Contents id (contents_back k o)) (here_kept maps s.maps id (stays (Map id) refl))
  same_back s (Frozen id frozen) stays = ap (λ o. Frozen id (frozen_back frozen o)) (here_kept maps s.maps id (stays (Map id) refl))
  same_back s (Presence id make entry pin) stays = ap (λ o. Presence id make (option_map entry_of o) (roots_turned s pin).1) (here_kept maps s.maps id (stays (Map id) refl))
  same_back s (Program id prog pin) stays = ap (λ o. Program id o (roots_turned s pin).1) (here_kept progs s.progs id (stays (Prog id) refl))
  same_back s (Pinned pin) stays = refl

  back_kept : (s : State) (u : Undoing) → ConcernedStays u.part → back_of (kept s) u ≡ back_of s u
  unfolding back_of
  back_kept s u stays = λ i. record (back_of s u) { part = same_back s u.part stays i }

  room_stays : (ready : Ready) (id : ℕ) → is_among progs id ≡ true → set.contains ready.progs id ≡ true → set.contains (kept_ready maps progs ready).progs id ≡ true
  room_stays ready id stays has = set.contains-retain ready.progs (is_among progs) id (λ x same. ap (is_among progs) (sym (nat_cmp-IsAntisymmetric id x same))) ∙ (λ i. has i && stays i)

  place_stays : (ready : Ready) (s : State) (u : Part) → ConcernedStays u → FitsPlace ready s u → FitsPlace (kept_ready maps progs ready) (kept s) u
  place_stays ready s (Contents id k) stays place = (place.0, here_kept maps s.maps id (stays (Map id) refl) ∙ place.1, place.2)
  place_stays ready s (Frozen id frozen) stays place = (place.0, here_kept maps s.maps id (stays (Map id) refl) ∙ place.1)
  place_stays ready s (Presence id make None pin) stays place = ((place.0.0, here_kept maps s.maps id (stays (Map id) refl) ∙ place.0.1), place.1)
  place_stays ready s (Presence id make (Some entry) pin) stays place =
      ((place.0.0, here_kept maps s.maps id (stays (Map id) refl) ∙ place.0.1, here_kept maps ready.makes id (stays (Map id) refl) ∙ place.0.2), place.1)
  place_stays ready s (Program id None pin) stays place = ((place.0.0, here_kept progs s.progs id (stays (Prog id) refl) ∙ place.0.1), place.1)
  place_stays ready s (Program id (Some prog) pin) stays place =
      ((here_kept progs s.progs id (stays (Prog id) refl) ∙ place.0.0, room_stays ready id (stays (Prog id) refl) place.0.1), place.1)
  place_stays ready s (Pinned pin) stays place = place

  -- ---- two states that an undoing joins
  one_stays : (before after : State) → ListsLive maps progs before → ListsLive maps progs after → (t : Target) → LivesInOne before after t → Stays maps progs t
  one_stays before after first second t lives = by (is_live_in before t) (is_live_in after t) refl refl lives
    where
      by : (a b : Bool) → is_live_in before t ≡ a → is_live_in after t ≡ b → a || b ≡ true → Stays maps progs t
      by true b is also e = live_stays maps progs before first t is
      by false true is also e = live_stays maps progs after second t also
      by false false is also e = cc

  touches_kept : (before after : State) (u : Undoing) → ListsLive maps progs before → ListsLive maps progs after → TouchesLive before after u → TouchesLive (kept before) (kept after) u
  touches_kept before after u first second t = record {
    part = λ target is. still target (t.part target is);
    retired = λ target listed. still target (t.retired target listed);
  }
    where
      still : (target : Target) → LivesInOne before after target → LivesInOne (kept before) (kept after) target
      still target lives = (λ i. same_live maps progs before first target i || same_live maps progs after second target i) ∙ lives

  pub joins_dropped : (ready : Ready) (before after : State) (back forth : Undoing) → Joins ready before after back forth → ListsLive maps progs before → ListsLive maps progs after
      → Joins (kept_ready maps progs ready) (kept_state maps progs before) (kept_state maps progs after) back forth
  joins_dropped ready before after back forth j first second = record {
    back_fits = record { place = place_stays ready after back.part back_stays j.back_fits.place; settled = subst IsSettled (sym back_state) (settled_kept maps progs before (subst IsSettled j.back_state j.back_fits.settled) first) };
    back_state = back_state;
    back_face = back_kept after back back_stays ∙ j.back_face;
    forth_fits = record { place = place_stays ready before forth.part forth_stays j.forth_fits.place; settled = subst IsSettled (sym forth_state) (settled_kept maps progs after (subst IsSettled j.forth_state j.forth_fits.settled) second) };
    forth_state = forth_state;
    forth_face = back_kept before forth forth_stays ∙ j.forth_face;
    touches = touches_kept before after back first second j.touches;
  }
    where
      back_stays : ConcernedStays back.part
      back_stays t is = one_stays before after first second t (j.touches.part t is)

      forth_stays : ConcernedStays forth.part
      forth_stays t is = one_stays after before second first t ((touches_forth after before back forth j.back_face j.touches).part t is)

      back_state : turned (kept after) back ≡ kept before
      back_state = turned_kept after back back_stays ∙ ap kept j.back_state

      forth_state : turned (kept before) forth ≡ kept after
      forth_state = turned_kept before forth forth_stays ∙ ap kept j.forth_state
