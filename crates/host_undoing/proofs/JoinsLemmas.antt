-- What joins two states still joins them when more stands ready, and what is left of them when objects are dropped that
-- neither has.
use Rattle.std.proofs.Common.{◌≡◌, ℕ, true, ◌&&◌, IsTrue, List, Option, Some, None, cond, refl, sym, ap, subst, ◌∙◌}
use Rattle.std.specs.Option.{option_map}
use Rattle.std.specs.FinMap as map
use Rattle.std.specs.FinMap.{nat_cmp-IsAntisymmetric}
use Rattle.std.specs.FinSet as set
use Rattle.bt_objects.specs.Ids.{is_among}
use Rattle.bt_objects.specs.declared.make.Make.{Make}
use Rattle.bt_roots.specs.declared.back.RootBack.{RootBack}
use Rattle.bt_roots.specs.declared.back.RootBack.TheVariants.{Pin, Attachment}
use Rattle.bt_roots.specs.View.{Paths}
use Rattle.bt_roots.specs.Exchange.{exchange_fits}
use Rattle.host_state.specs.declared.entry.MapEntry.{MapEntry}
use Rattle.host_undoing.specs.declared.undoing.Part.{Part}
use Rattle.host_undoing.specs.declared.undoing.Part.TheVariants.{Contents, Frozen, Presence, Program, Pinned}
use Rattle.host_undoing.specs.declared.undoing.Undoing.{Undoing}
use Rattle.bt_objects.specs.ById.{put_at}
use Rattle.host_state.specs.State.{HostProg, State, made}
use Rattle.host_state.specs.Settled.{is_live_in, is_listed, revived}
use Rattle.host_state.specs.World.{Ready, ListsAll, kept_ready}
use Rattle.host_state.proofs.Growth.{Grows}
use Rattle.host_undoing.specs.Exchange.{part_turned, part_back, turned, back_of, roots_of, FitsPlace, Fits, Joins, TouchesLive, concerned}
use Rattle.host_state.proofs.Lasting.{get-kept, or_turned}
use Rattle.host_state.proofs.RetireLemmas.{map_revived, prog_revived, get-revived}
use Rattle.host_state.proofs.ByIdLemmas.{get-put_same, get-mapped}

-- ---- more stands ready
pin_grows : (s : State) (old new : Paths) (pin : RootBack) → ((path : List ℕ) → set.contains old path ≡ true → set.contains new path ≡ true)
    → IsTrue (exchange_fits (roots_of s old) pin) → IsTrue (exchange_fits (roots_of s new) pin)
unfolding exchange_fits
pin_grows s old new (Pin path target) more fits = more path fits
pin_grows s old new (Attachment position prog) more fits = fits

place_grows : (old new : Ready) (s : State) (u : Part) → Grows old new → FitsPlace old s u → FitsPlace new s u
place_grows old new s (Contents id k) grows place = place
place_grows old new s (Frozen id frozen) grows place = place
place_grows old new s (Presence id make None pin) grows place = (place.0, pin_grows s old.room new.room pin grows.room place.1)
place_grows old new s (Presence id make (Some entry) pin) grows place =
    ((place.0.0, place.0.1, grows.makes id make place.0.2), pin_grows s old.room new.room pin grows.room place.1)
place_grows old new s (Program id None pin) grows place = (place.0, pin_grows s old.room new.room pin grows.room place.1)
place_grows old new s (Program id (Some prog) pin) grows place =
    ((place.0.0, grows.progs id place.0.1), pin_grows s old.room new.room pin grows.room place.1)
place_grows old new s (Pinned pin) grows place = pin_grows s old.room new.room pin grows.room place

fits_grow : (old new : Ready) (s : State) (u : Undoing) → Grows old new → Fits old s u → Fits new s u
fits_grow old new s u grows f = record { place = place_grows old new s u.part grows f.place; settled = f.settled }

pub joins_grow : (old new : Ready) (before after : State) (back forth : Undoing) → Grows old new → Joins old before after back forth → Joins new before after back forth
joins_grow old new before after back forth grows j = record {
  back_fits = fits_grow old new after back grows j.back_fits;
  back_state = j.back_state;
  back_face = j.back_face;
  forth_fits = fits_grow old new before forth grows j.forth_fits;
  forth_state = j.forth_state;
  forth_face = j.forth_face;
  touches = j.touches;
}

-- ---- what is not listed goes
-- a map or a program that a part brings is listed
record IsListed (maps progs : List ℕ) (u : Part) : Type 0 where
  map_listed : (id : ℕ) (make : Make) (entry : Option MapEntry) (pin : RootBack) → u ≡ Presence id make entry pin → IsTrue (is_among maps id)
  prog_listed : (id : ℕ) (prog : Option HostProg) (pin : RootBack) → u ≡ Program id prog pin → IsTrue (is_among progs id)

place_kept : (maps progs : List ℕ) (ready : Ready) (s : State) (u : Part) → IsListed maps progs u → FitsPlace ready s u → FitsPlace (kept_ready maps progs ready) s u
place_kept maps progs ready s (Contents id k) listed place = place
place_kept maps progs ready s (Frozen id frozen) listed place = place
place_kept maps progs ready s (Presence id make None pin) listed place = place
place_kept maps progs ready s (Program id None pin) listed place = place
place_kept maps progs ready s (Program id (Some prog) pin) listed place = (
  (
    place.0.0,
    set.contains-retain ready.progs (is_among progs) id (λ x same. ap (is_among progs) (sym (nat_cmp-IsAntisymmetric id x same)))
        ∙ (λ i. place.0.1 i && listed.prog_listed id (Some prog) pin refl i),
  ),
  place.1,
)
place_kept maps progs ready s (Presence id make (Some entry) pin) listed place =
    ((place.0.0, place.0.1, get-kept maps ready.makes id ∙ ap (λ b. cond b (map.get ready.makes id) None) (listed.map_listed id make (Some entry) pin refl) ∙ place.0.2), place.1)
place_kept maps progs ready s (Pinned pin) listed place = place

put_in : (s : State) (u : Undoing) (id : ℕ) (make : Make) (entry : MapEntry) (pin : RootBack) → u.part ≡ Presence id make (Some entry) pin
    → map.get (turned s u).maps id ≡ Some (map_revived u.retired.targets u.retired.live id (made make entry))
unfolding turned part_turned
put_in s u id make entry pin is =
    ap (λ (x : Part). map.get (revived (part_turned s x) u.retired.targets u.retired.live).maps id) is
    ∙ get-revived (part_turned s (Presence id make (Some entry) pin)) u.retired.targets u.retired.live id
    ∙ ap (option_map (map_revived u.retired.targets u.retired.live id)) (get-put_same s.maps id (Some (made make entry)))

-- a map that comes or goes stands in one of the two states
stands : (maps progs : List ℕ) (ready : Ready) (before after : State) (back forth : Undoing) → ListsAll maps progs before → ListsAll maps progs after → Joins ready before after back forth
    → (id : ℕ) (make : Make) (entry : Option MapEntry) (pin : RootBack) → back.part ≡ Presence id make entry pin → IsTrue (is_among maps id)
stands maps progs ready before after back forth all_before all_after j id make None pin is =
    let place = subst (FitsPlace ready after) is j.back_fits.place in all_after.maps_listed id (made make place.0.0) place.0.1
stands maps progs ready before after back forth all_before all_after j id make (Some entry) pin is =
    all_before.maps_listed id (map_revived back.retired.targets back.retired.live id (made make entry)) (ap (λ (t : State). map.get t.maps id) (sym j.back_state) ∙ put_in after back id make entry pin is)

prog_in : (s : State) (u : Undoing) (id : ℕ) (prog : HostProg) (pin : RootBack) → u.part ≡ Program id (Some prog) pin
    → map.get (turned s u).progs id ≡ Some (prog_revived u.retired.targets u.retired.live id prog)
unfolding turned part_turned revived
prog_in s u id prog pin is =
    ap (λ (x : Part). map.get (revived (part_turned s x) u.retired.targets u.retired.live).progs id) is
    ∙ get-mapped (prog_revived u.retired.targets u.retired.live) (put_at s.progs id (Some prog)) id
    ∙ ap (option_map (prog_revived u.retired.targets u.retired.live id)) (get-put_same s.progs id (Some prog))

-- the same of a program
prog_stands : (maps progs : List ℕ) (ready : Ready) (before after : State) (back forth : Undoing) → ListsAll maps progs before → ListsAll maps progs after → Joins ready before after back forth
    → (id : ℕ) (prog : Option HostProg) (pin : RootBack) → back.part ≡ Program id prog pin → IsTrue (is_among progs id)
prog_stands maps progs ready before after back forth all_before all_after j id None pin is =
    let place = subst (FitsPlace ready after) is j.back_fits.place in all_after.progs_listed id place.0.0 place.0.1
prog_stands maps progs ready before after back forth all_before all_after j id (Some prog) pin is =
    all_before.progs_listed id (prog_revived back.retired.targets back.retired.live id prog) (ap (λ (t : State). map.get t.progs id) (sym j.back_state) ∙ prog_in after back id prog pin is)

-- what is turned concerns the same object
same_concern : (s : State) (u : Part) → concerned (part_back s u) ≡ concerned u
unfolding part_back
same_concern s (Contents id k) = refl
same_concern s (Frozen id frozen) = refl
same_concern s (Presence id make entry pin) = refl
same_concern s (Program id prog pin) = refl
same_concern s (Pinned pin) = refl

pub touches_forth : (after before : State) (back forth : Undoing) → back_of after back ≡ forth → TouchesLive before after back → TouchesLive after before forth
unfolding back_of
touches_forth after before back forth face t = record {
  part = λ target is. or_turned (is_live_in before target) (is_live_in after target) (t.part target (sym (same_concern after back.part) ∙ ap (λ (u : Undoing). concerned u.part) face ∙ is));
  retired = λ target listed. or_turned (is_live_in before target) (is_live_in after target) (t.retired target (ap (λ (u : Undoing). is_listed u.retired.targets target) face ∙ listed));
}

turn_round : (ready : Ready) (before after : State) (back forth : Undoing) → Joins ready before after back forth → Joins ready after before forth back
turn_round ready before after back forth j = record {
  back_fits = j.forth_fits;
  back_state = j.forth_state;
  back_face = j.forth_face;
  forth_fits = j.back_fits;
  forth_state = j.back_state;
  forth_face = j.back_face;
  touches = touches_forth after before back forth j.back_face j.touches;
}

pub joins_kept : (maps progs : List ℕ) (ready : Ready) (before after : State) (back forth : Undoing) → ListsAll maps progs before → ListsAll maps progs after
    → Joins ready before after back forth → Joins (kept_ready maps progs ready) before after back forth
joins_kept maps progs ready before after back forth all_before all_after j = record {
  back_fits = record {
    place = place_kept maps progs ready after back.part (record {
      map_listed = stands maps progs ready before after back forth all_before all_after j;
      prog_listed = prog_stands maps progs ready before after back forth all_before all_after j;
    }) j.back_fits.place;
    settled = j.back_fits.settled;
  };
  back_state = j.back_state;
  back_face = j.back_face;
  forth_fits = record {
    place = place_kept maps progs ready before forth.part (record {
      map_listed = stands maps progs ready after before forth back all_after all_before (turn_round ready before after back forth j);
      prog_listed = prog_stands maps progs ready after before forth back all_after all_before (turn_round ready before after back forth j);
    }) j.forth_fits.place;
    settled = j.forth_fits.settled;
  };
  forth_state = j.forth_state;
  forth_face = j.forth_face;
  touches = j.touches;
}
