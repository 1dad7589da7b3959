-- A later change that is apart from one of one key of a map does alike without it.
use Rattle.std.proofs.Common.{◌≡◌, ◌≤◌, ℕ, true, false, ◌&&◌, not, Option, Some, None, Ok, is_some, inl, inr, refl, sym, ap, subst, ◌∙◌}
use Rattle.std.specs.Prelude.{◌⊎◌}
use Rattle.std.specs.Option.{option_map, option_map_or}
use Rattle.std.specs.FinMap as map
use Rattle.std.specs.Ordering.{nat_cmp, eq_by_cmp}
use Rattle.bt_mapkind.specs.declared.attr.MapAttr.{MapAttr}
use Rattle.bt_mapkind.specs.declared.exchange.Back.{Back}
use Rattle.bt_mapkind.specs.Contents.{Contents as Held}
use Rattle.bt_mapkind.specs.Exchange.{exchange_fits, exchanged}
use Rattle.bt_mapkind.specs.Kept.{Kept, room_of}
use Rattle.bt_mapkind.specs.Well.{IsWell}
use Rattle.map_laws.specs.Place.{is_put, is_delete, is_by_key}
use Rattle.map_laws.specs.Laws.{forth_of}
use Rattle.bt_objects.specs.ById.{put_at}
use Rattle.bt_roots.specs.declared.target.Target.{Target}
use Rattle.host_state.specs.declared.change.Change.{Change}
use Rattle.host_state.specs.declared.change.Change.TheVariants.{Create, Operate, Freeze, Link, Load, Pin, Unpin, Attach, Detach}
use Rattle.host_state.specs.declared.reply.Reply.{Reply}
use Rattle.host_state.specs.State.{HostMap, State, made}
use Rattle.host_state.specs.Settled.{is_live_in, IsSettled}
use Rattle.host_state.specs.Act.{act}
use Rattle.host_state.specs.World.{Ready}
use Rattle.host_state.proofs.ByIdLemmas.{same_some, at_put, get-put_same, is_itself}
use Rattle.host_state.proofs.RetireLemmas.{map_revived, get-revived}
use Rattle.host_undoing.specs.declared.undoing.Part.{Part}
use Rattle.host_undoing.specs.declared.undoing.Part.TheVariants.{Contents, Frozen, Presence, Program, Pinned}
use Rattle.host_undoing.specs.declared.undoing.Undoing.{Undoing}
use Rattle.host_undoing.specs.Exchange.{part_turned, part_back, turned, back_of, FitsPlace, Joins}
use Rattle.host_undoing.specs.Answers.{IsOwn}
use Rattle.host_undoing.proofs.ContentsLemmas.{back_there}
use Rattle.host_undoing.proofs.Parts.{contents_turned, frozen_turned}
use Rattle.host_apart.specs.Alike.{HasByteKey, IsAsLeft, IsBeside, DoesAlike, DoesAlikeBeside, puts_again}
use Rattle.host_apart.specs.Refilled.{KeepsIds, refilled, carried, IsElsewhere, IsPartElsewhere, exchanged_by}
use Rattle.host_apart.specs.Spots.{are_apart, back_of_part}
use Rattle.host_apart.proofs.ActsElsewhere.{acts_elsewhere}
use Rattle.host_apart.proofs.Beside.{there_here, operates_refilled, commutes_beside, StaysBoth, stays_both}
use Rattle.host_apart.proofs.Commuting.{Commutes, joins_by}
use Rattle.host_apart.proofs.OperatedLemmas.{keyed_by_key, operated_plain}
use Rattle.host_apart.proofs.PartsElsewhere.{same_there, forth_elsewhere, joins_elsewhere}
use Rattle.host_apart.proofs.RefilledLemmas.{live_refilled, settled_refilled, turned_refilled, keyed_keeps}
use Rattle.host_apart.proofs.Spots.{IsApartFrom, IsAtOtherKey, spots_differ}

-- ---- a turning elsewhere leaves what a map holds
record Seen : Type 0 where
  attr : MapAttr
  contents : Held

abbrev seen_of : HostMap → Seen
seen_of m = record { attr = m.attr; contents = m.contents }

abbrev seen : State → ℕ → Option Seen
seen s id = option_map seen_of (map.get s.maps id)

other_id : (id q : ℕ) → eq_by_cmp nat_cmp q id ≡ false → id ≡ q → true ≡ false
other_id id q apart is = sym (is_itself id) ∙ ap (λ x. eq_by_cmp nat_cmp x id) is ∙ apart

put_seen : (s : State) (id q : ℕ) (x : Option HostMap) → eq_by_cmp nat_cmp q id ≡ false → option_map seen_of (map.get (put_at s.maps q x) id) ≡ seen s id
put_seen s id q x apart = at_put s.maps q id x (λ o. option_map seen_of o ≡ option_map seen_of (map.get s.maps id)) (λ is. let e : true ≡ false = other_id id q apart is in cc) refl

part_seen : (s : State) (id : ℕ) (part : Part) → IsPartElsewhere id part → seen (part_turned s part) id ≡ seen s id
unfolding part_turned
part_seen s id (Contents q k) apart = by (map.get s.maps q)
  where
    by : (o : Option HostMap) → seen (contents_turned s q k.back o) id ≡ seen s id
    by None = refl
    by (Some m) = put_seen s id q (Some (record m { contents = (exchanged m.contents k.back).0 })) apart
part_seen s id (Frozen q frozen) apart = by (map.get s.maps q) refl
  where
    by : (o : Option HostMap) → map.get s.maps q ≡ o → seen (frozen_turned s q frozen o) id ≡ seen s id
    by None there = refl
    by (Some m) there =
        at_put s.maps q id (Some (record m { frozen = frozen })) (λ o. option_map seen_of o ≡ option_map seen_of (map.get s.maps id))
        (λ is. sym (ap (option_map seen_of) (ap (map.get s.maps) is ∙ there))) refl
part_seen s id (Presence q make entry pin) apart = put_seen s id q (option_map (made make) entry) apart
part_seen s id (Program q prog pin) apart = refl
part_seen s id (Pinned pin) apart = refl

turned_seen : (s : State) (id : ℕ) (v : Undoing) → IsPartElsewhere id v.part → seen (turned s v) id ≡ seen s id
unfolding turned
turned_seen s id v apart =
    ap (option_map seen_of) (get-revived (part_turned s v.part) v.retired.targets v.retired.live id)
    ∙ by (map.get (part_turned s v.part).maps id)
    ∙ part_seen s id v.part apart
  where
    by : (o : Option HostMap) → option_map seen_of (option_map (map_revived v.retired.targets v.retired.live id) o) ≡ option_map seen_of o
    by None = refl
    by (Some m) = refl

-- a map of these attributes and contents
record IsSeen (t : State) (id : ℕ) (a : MapAttr) (c : Held) : Type 0 where
  host : HostMap
  there : map.get t.maps id ≡ Some host
  attr : host.attr ≡ a
  contents : host.contents ≡ c

seen_there : (t : State) (id : ℕ) (a : MapAttr) (c : Held) → seen t id ≡ Some (record { attr = a; contents = c }) → IsSeen t id a c
seen_there t id a c = by (map.get t.maps id) refl
  where
    by : (o : Option HostMap) → map.get t.maps id ≡ o → option_map seen_of o ≡ Some (record { attr = a; contents = c }) → IsSeen t id a c
    by None there e = cc
    by (Some m) there e = record { host = m; there = there; attr = ap (λ (x : Seen). x.attr) (same_some e); contents = ap (λ (x : Seen). x.contents) (same_some e) }

-- ---- the change's own part elsewhere
own_elsewhere : (s : State) (id : ℕ) (f : Held → Held) (change : Change) (part : Part) → IsElsewhere id change → IsOwn s change part → IsOwn (refilled s id f) change part
own_elsewhere s id f (Create q attr charge name path template) part apart own = own
own_elsewhere s id f (Operate origin q op) part apart own = record { host = own.host; there = same_there id f s q apart ∙ own.there; changed = own.changed; step = own.step; room = own.room; is = own.is }
own_elsewhere s id f (Freeze q) part apart own = own
own_elsewhere s id f (Link q key named flag) part apart own = record { host = own.host; there = same_there id f s q apart ∙ own.there; changed = own.changed; step = own.step; room = own.room; is = own.is }
own_elsewhere s id f (Load q code name path) part apart own = own
own_elsewhere s id f (Pin target path) part apart own = own
own_elsewhere s id f (Unpin path) part apart own = own
own_elsewhere s id f (Attach prog device overwrite) part apart own = own
own_elsewhere s id f (Detach device) part apart own = own

-- ---- what an exchange of a part of a map then is
pub back_part : (t : State) (v : Undoing) (id : ℕ) (m : HostMap) (k : Kept) → v.part ≡ Contents id k → map.get t.maps id ≡ Some m → (back_of t v).part ≡ Contents id (record k { back = (exchanged m.contents k.back).1 })
unfolding back_of
back_part t v id m k is there = ap (part_back t) is ∙ back_there t id m k there

same_back : (s t : State) (u : Undoing) → (back_of t u).part ≡ (back_of s u).part → back_of t u ≡ back_of s u
unfolding back_of
same_back s t u same = λ i. record { part = same i; retired = record u.retired { live = not u.retired.live } }

module _ (ready : Ready) (s t : State) (change : Change) (u forth : Undoing) (later : Change) (reply : Reply) (v : Undoing) (h : IsBeside ready s t change u forth later reply v) where
  place : FitsPlace ready s (Contents h.one.id h.one.kept)
  place = subst (FitsPlace ready s) h.one.part_is h.as_left.fits.place

  keeps : KeepsIds (exchanged_by h.one.kept.back)
  keeps = keyed_keeps h.one.kept.back h.one.keyed

  turns : (x : State) → turned x u ≡ refilled x h.one.id (exchanged_by h.one.kept.back)
  turns x = turned_refilled x u h.one.id h.one.kept h.one.part_is h.one.none

  settled : IsSettled s
  settled = subst IsSettled h.joins.back_state h.joins.back_fits.settled

  settled_after : IsSettled t
  settled_after = subst IsSettled h.joins.forth_state h.joins.forth_fits.settled

  -- what is left of it above
  left : (n : HostMap) → map.get t.maps h.one.id ≡ Some n → n.attr ≡ place.0.attr → exchange_fits n.attr n.contents h.one.kept.back ≡ true
      → (exchanged n.contents h.one.kept.back).1 ≡ (exchanged place.0.contents h.one.kept.back).1 → IsAsLeft ready t u forth
  left n there same fits face = record {
    fits = record {
      place = subst (FitsPlace ready t) (sym h.one.part_is) (n, there, record { fits = fits; room = subst (λ a. room_of a ≤ h.one.kept.room) (sym same) place.2.room });
      settled = subst IsSettled (sym (turns t)) (settled_refilled h.one.id (exchanged_by h.one.kept.back) keeps t settled_after);
    };
    face =
        same_back s t u (
        back_part t u h.one.id n h.one.kept h.one.part_is there
        ∙ ap (λ (b : Back). Contents h.one.id (record h.one.kept { back = b })) face
        ∙ sym (back_part s u h.one.id place.0 h.one.kept h.one.part_is place.1)
        )
        ∙ h.as_left.face;
  }

  -- from the two states refilled
  alike : IsAsLeft ready t u forth
      → act (refilled s h.one.id (exchanged_by h.one.kept.back)) later ≡ Ok (refilled t h.one.id (exchanged_by h.one.kept.back), reply)
      → Joins ready (refilled s h.one.id (exchanged_by h.one.kept.back)) (refilled t h.one.id (exchanged_by h.one.kept.back)) v (back_of t v)
      → IsOwn (refilled s h.one.id (exchanged_by h.one.kept.back)) later v.part → DoesAlike ready s t u forth later reply v
  alike as_left acts joins own =
      let face : back_of (turned t u) v ≡ back_of t v = ap (λ x. back_of x v) (turns t) ∙ joins.back_face in record {
        as_left = as_left;
        acts = ap (λ x. act x later) (turns s) ∙ acts ∙ (λ i. Ok (sym (turns t) i, reply));
        joins =
            subst (Joins ready (turned s u) (turned t u) v) (sym face)
            (subst (λ x. Joins ready x (turned t u) v (back_of t v)) (sym (turns s))
            (subst (λ x. Joins ready (refilled s h.one.id (exchanged_by h.one.kept.back)) x v (back_of t v)) (sym (turns t)) joins));
        face = face;
        own = subst (λ x. IsOwn x later v.part) (sym (turns s)) own;
        retires = λ targets just x. just x ∙ (λ i. sym (lives s x) i && not (sym (lives t x) i));
      }
    where
      lives : (y : State) (x : Target) → is_live_in (turned y u) x ≡ is_live_in y x
      lives y x = ap (λ z. is_live_in z x) (turns y) ∙ live_refilled h.one.id (exchanged_by h.one.kept.back) y x

  -- ---- elsewhere
  there_id : map.contains_key s.maps h.one.id ≡ true
  there_id = ap is_some place.1

  elsewhere : IsApartFrom h.one.id later v.part → DoesAlike ready s t u forth later reply v
  elsewhere a =
      alike
      (left still.host still.there still.attr ((λ i. exchange_fits (still.attr i) (still.contents i) h.one.kept.back) ∙ place.2.fits) (ap (λ c. (exchanged c h.one.kept.back).1) still.contents))
      (acts_elsewhere s h.one.id (exchanged_by h.one.kept.back) later keeps there_id a.change ∙ ap (carried h.one.id (exchanged_by h.one.kept.back)) h.acts)
      (joins_elsewhere ready s t h.one.id (exchanged_by h.one.kept.back) v (back_of t v) keeps a.exchange h.joins)
      (own_elsewhere s h.one.id (exchanged_by h.one.kept.back) later v.part a.change h.own)
    where
      same : seen t h.one.id ≡ Some (record { attr = place.0.attr; contents = place.0.contents })
      same = ap (λ (x : State). seen x h.one.id) (sym h.joins.forth_state) ∙ turned_seen s h.one.id (back_of t v) (forth_elsewhere h.one.id t v (back_of t v) refl a.exchange) ∙ ap (option_map seen_of) place.1

      still : IsSeen t h.one.id place.0.attr place.0.contents
      still = seen_there t h.one.id place.0.attr place.0.contents same

  -- ---- at another key of the same map
  at_other_key : IsAtOtherKey h.one.id place.0 h.one.kept later v.part → DoesAlike ready s t u forth later reply v
  at_other_key o =
      alike
      (left after there_after refl both.fits both.face)
      (ap (act (refilled s h.one.id (exchanged_by h.one.kept.back))) o.change_is
      ∙ operates_refilled s o.origin h.one.id (exchanged_by h.one.kept.back) o.op place.0 o.changed keeps place.1 o.step both.steps
      ∙ ap (carried h.one.id (exchanged_by h.one.kept.back)) acts)
      (joins_by ready s t h.one.id (exchanged_by h.one.kept.back) v (back_of t v) keeps h.joins
      (subst (Commutes ready t h.one.id (exchanged_by h.one.kept.back)) (sym o.part_is)
      (commutes_beside ready t h.one.id after h.one.kept.back (record { back = o.changed.back; room = o.room }) there_after both.back_order both.back_fits room))
      (subst (Commutes ready s h.one.id (exchanged_by h.one.kept.back)) (sym forth_is)
      (commutes_beside ready s h.one.id place.0 h.one.kept.back (record { back = forth_of o.changed; room = o.room }) place.1 both.forth_order both.forth_fits room)))
      (subst (λ x. IsOwn (refilled s h.one.id (exchanged_by h.one.kept.back)) x v.part) (sym o.change_is) (record {
        host = record place.0 { contents = (exchanged place.0.contents h.one.kept.back).0 };
        there = there_here s h.one.id (exchanged_by h.one.kept.back) place.0 place.1;
        changed = record { contents = (exchanged o.changed.contents h.one.kept.back).0; reply = o.changed.reply; back = o.changed.back };
        step = both.steps;
        room = o.room;
        is = o.part_is;
      }))
    where
      well : IsWell place.0.attr place.0.contents
      well = (h.well h.one.id place.0 place.1).0

      acts : act s (Operate o.origin h.one.id o.op) ≡ Ok (t, reply)
      acts = ap (act s) (sym o.change_is) ∙ h.acts

      both : StaysBoth place.0.attr place.0.contents h.one.kept.back o.op o.changed
      both =
          stays_both place.0.attr place.0.contents h.one.kept.back o.op o.changed (record { well = well; fits = place.2.fits })
          (ap is_by_key well.shape ∙ keyed_by_key place.0.attr place.0.contents h.one.kept.back h.one.keyed place.2.fits) o.step o.differs o.gives_room

      after : HostMap
      after = record place.0 { contents = o.changed.contents }

      there_after : map.get t.maps h.one.id ≡ Some (record place.0 { contents = o.changed.contents })
      there_after =
          ap (λ (x : State). map.get x.maps h.one.id) (operated_plain s t o.origin h.one.id o.op reply place.0 o.changed place.1 o.step well o.keyed settled acts)
          ∙ get-put_same s.maps h.one.id (Some (record place.0 { contents = o.changed.contents }))

      forth_is : (back_of t v).part ≡ Contents h.one.id (record { back = forth_of o.changed; room = o.room })
      forth_is = back_part t v h.one.id (record place.0 { contents = o.changed.contents }) (record { back = o.changed.back; room = o.room }) o.part_is there_after

      room : room_of place.0.attr ≤ o.room
      room =
          let there : FitsPlace ready t (Contents h.one.id (record { back = o.changed.back; room = o.room })) = subst (FitsPlace ready t) o.part_is h.joins.back_fits.place in
          subst (λ (n : HostMap). room_of n.attr ≤ o.room) (same_some (sym there.1 ∙ there_after)) there.2.room

  -- what the first does again, of its exchange
  puts : is_put (exchanged place.0.contents h.one.kept.back).1 ≡ not (is_delete h.one.op)
  puts =
      sym (ap (λ (p : Part). option_map_or is_put (back_of_part p) false) (back_part s u h.one.id place.0 h.one.kept h.one.part_is place.1))
      ∙ ap puts_again h.as_left.face
      ∙ h.puts

  pub alike_beside : DoesAlike ready s t u forth later reply v
  alike_beside =
      by (spots_differ s h.one.id place.0 h.one.kept h.one.origin h.one.op place.1 (h.well h.one.id place.0 place.1) place.2.fits h.one.keyed (subst HasByteKey h.one.part_is h.bytes.0) puts
      t reply later v.part h.acts h.own h.bytes.1
      (sym (λ i. are_apart (h.one.change_is i) (h.one.part_is i) later v.part) ∙ h.apart))
    where
      by : IsApartFrom h.one.id later v.part ⊎ IsAtOtherKey h.one.id place.0 h.one.kept later v.part → DoesAlike ready s t u forth later reply v
      by (inl a) = elsewhere a
      by (inr o) = at_other_key o

pub does_alike : (ready : Ready) (s t : State) (change : Change) (u forth : Undoing) (later : Change) (reply : Reply) (v : Undoing) → DoesAlikeBeside ready s t change u forth later reply v
does_alike ready s t change u forth later reply v h = alike_beside ready s t change u forth later reply v h
