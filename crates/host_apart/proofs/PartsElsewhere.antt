-- An undoing that is not of a map's contents commutes with what makes these others.
use Rattle.std.proofs.Common.{◌≡◌, ℕ, Bool, false, Option, Some, None, refl, sym, ap, subst, ◌∙◌}
use Rattle.std.specs.Option.{option_map}
use Rattle.std.specs.Ordering.{nat_cmp, eq_by_cmp}
use Rattle.std.specs.FinMap as map
use Rattle.bt_mapkind.specs.Contents.{Contents as Held}
use Rattle.bt_mapkind.specs.Exchange.{exchanged}
use Rattle.bt_mapkind.specs.declared.exchange.Back.{Back}
use Rattle.bt_objects.specs.ById.{put_at}
use Rattle.host_state.specs.State.{HostMap, State, made, entry_of}
use Rattle.host_state.specs.World.{Ready}
use Rattle.host_state.proofs.ByIdLemmas.{mapped-put}
use Rattle.host_undoing.specs.declared.undoing.Part.{Part}
use Rattle.host_undoing.specs.declared.undoing.Part.TheVariants.{Contents, Frozen, Presence, Program, Pinned}
use Rattle.host_undoing.specs.declared.undoing.Undoing.{Undoing}
use Rattle.host_undoing.specs.Exchange.{part_turned, part_back, back_of, with_roots, roots_turned, FitsPlace}
use Rattle.host_undoing.proofs.Parts.{contents_turned, contents_back, frozen_turned, frozen_back}
use Rattle.host_apart.specs.Refilled.{map_refilled, refilled, IsPartElsewhere, JoinsElsewhere}
use Rattle.host_apart.proofs.RefilledLemmas.{get-refilled, elsewhere, put_refilled}
use Rattle.host_apart.proofs.Commuting.{Commutes, joins_by}

-- the part that then stands for a part is of the same map
pub back_elsewhere : (s : State) (id : ℕ) (part : Part) → IsPartElsewhere id part → IsPartElsewhere id (part_back s part)
unfolding part_back
back_elsewhere s id (Contents q k) apart = apart
back_elsewhere s id (Frozen q frozen) apart = apart
back_elsewhere s id (Presence q make entry pin) apart = apart
back_elsewhere s id (Program q prog pin) apart = apart
back_elsewhere s id (Pinned pin) apart = apart

pub forth_elsewhere : (id : ℕ) (t : State) (v forth : Undoing) → back_of t v ≡ forth → IsPartElsewhere id v.part → IsPartElsewhere id forth.part
unfolding back_of
forth_elsewhere id t v forth face apart = subst (λ (u : Undoing). IsPartElsewhere id u.part) face (back_elsewhere t id v.part apart)

module _ (id : ℕ) (f : Held → Held) where
  option_elsewhere : (q : ℕ) → eq_by_cmp nat_cmp q id ≡ false → (o : Option HostMap) → option_map (map_refilled id f q) o ≡ o
  option_elsewhere q apart None = refl
  option_elsewhere q apart (Some m) = ap Some (elsewhere id f q m apart)

  pub same_there : (s : State) (q : ℕ) → eq_by_cmp nat_cmp q id ≡ false → map.get (refilled s id f).maps q ≡ map.get s.maps q
  same_there s q apart = get-refilled id f s q ∙ option_elsewhere q apart (map.get s.maps q)

  -- ---- a part that is exchanged
  contents_elsewhere : (s : State) (q : ℕ) (b : Back) → eq_by_cmp nat_cmp q id ≡ false → (o : Option HostMap) → contents_turned (refilled s id f) q b o ≡ refilled (contents_turned s q b o) id f
  contents_elsewhere s q b apart None = refl
  contents_elsewhere s q b apart (Some m) =
      (λ i. record (refilled s id f) { maps = map.insert (refilled s id f).maps q (sym (elsewhere id f q (record m { contents = (exchanged m.contents b).0 }) apart) i) })
      ∙ put_refilled id f s q (record m { contents = (exchanged m.contents b).0 })

  frozen_refilled : (s : State) (q : ℕ) (frozen : Bool) (o : Option HostMap) → frozen_turned (refilled s id f) q frozen (option_map (map_refilled id f q) o) ≡ refilled (frozen_turned s q frozen o) id f
  frozen_refilled s q frozen None = refl
  frozen_refilled s q frozen (Some m) = put_refilled id f s q (record m { frozen = frozen })

  pub part_turned_elsewhere : (s : State) (part : Part) → IsPartElsewhere id part → part_turned (refilled s id f) part ≡ refilled (part_turned s part) id f
  unfolding part_turned
  part_turned_elsewhere s (Contents q k) apart = ap (contents_turned (refilled s id f) q k.back) (same_there s q apart) ∙ contents_elsewhere s q k.back apart (map.get s.maps q)
  part_turned_elsewhere s (Frozen q frozen) apart = ap (frozen_turned (refilled s id f) q frozen) (get-refilled id f s q) ∙ frozen_refilled s q frozen (map.get s.maps q)
  part_turned_elsewhere s (Presence q make entry pin) apart = λ i. record (with_roots s pin) {
    maps = (
        ap (put_at (refilled s id f).maps q) (sym (option_elsewhere q apart (option_map (made make) entry)))
        ∙ sym (mapped-put (map_refilled id f) s.maps q (option_map (made make) entry))
        ) i;
  }
  part_turned_elsewhere s (Program q prog pin) apart = refl
  part_turned_elsewhere s (Pinned pin) apart = refl

  -- ---- what then stands for it
  same_frozen : (q : ℕ) (frozen : Bool) (o : Option HostMap) → frozen_back frozen (option_map (map_refilled id f q) o) ≡ frozen_back frozen o
  same_frozen q frozen None = refl
  same_frozen q frozen (Some m) = refl

  same_entry : (q : ℕ) (o : Option HostMap) → option_map entry_of (option_map (map_refilled id f q) o) ≡ option_map entry_of o
  same_entry q None = refl
  same_entry q (Some m) = refl

  pub part_back_elsewhere : (s : State) (part : Part) → IsPartElsewhere id part → part_back (refilled s id f) part ≡ part_back s part
  unfolding part_back
  part_back_elsewhere s (Contents q k) apart = ap (λ o. Contents q (contents_back k o)) (same_there s q apart)
  part_back_elsewhere s (Frozen q frozen) apart = ap (Frozen q) (ap (frozen_back frozen) (get-refilled id f s q) ∙ same_frozen q frozen (map.get s.maps q))
  part_back_elsewhere s (Presence q make entry pin) apart =
      let same : option_map entry_of (map.get (refilled s id f).maps q) ≡ option_map entry_of (map.get s.maps q) = ap (option_map entry_of) (get-refilled id f s q) ∙ same_entry q (map.get s.maps q) in
      ap (λ e. Presence q make e (roots_turned s pin).1) same
  part_back_elsewhere s (Program q prog pin) apart = refl
  part_back_elsewhere s (Pinned pin) apart = refl

  -- ---- what fits
  pub place_elsewhere : (ready : Ready) (s : State) (part : Part) → IsPartElsewhere id part → FitsPlace ready s part → FitsPlace ready (refilled s id f) part
  place_elsewhere ready s (Contents q k) apart place = (place.0, same_there s q apart ∙ place.1, place.2)
  place_elsewhere ready s (Frozen q frozen) apart place = (map_refilled id f q place.0, get-refilled id f s q ∙ ap (option_map (map_refilled id f q)) place.1)
  place_elsewhere ready s (Presence q make None pin) apart place = ((place.0.0, same_there s q apart ∙ place.0.1), place.1)
  place_elsewhere ready s (Presence q make (Some entry) pin) apart place = ((place.0.0, same_there s q apart ∙ place.0.1, place.0.2), place.1)
  place_elsewhere ready s (Program q prog pin) apart place = place
  place_elsewhere ready s (Pinned pin) apart place = place

  pub commutes_elsewhere : (ready : Ready) (s : State) (part : Part) → IsPartElsewhere id part → FitsPlace ready s part → Commutes ready s id f part
  commutes_elsewhere ready s part apart place = record {
    turns = part_turned_elsewhere s part apart;
    back = part_back_elsewhere s part apart;
    place = place_elsewhere ready s part apart place;
  }

pub joins_elsewhere : (ready : Ready) (s t : State) (id : ℕ) (f : Held → Held) (v forth : Undoing) → JoinsElsewhere ready s t id f v forth
joins_elsewhere ready s t id f v forth keeps apart j =
    joins_by ready s t id f v forth keeps j (commutes_elsewhere id f ready t v.part apart j.back_fits.place)
    (commutes_elsewhere id f ready s forth.part (forth_elsewhere id t v forth j.back_face apart) j.forth_fits.place)
