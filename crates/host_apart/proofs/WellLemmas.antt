-- Turning keeps what maps can hold.
use Rattle.std.proofs.Common.{◌≡◌, ℕ, Bool, List, refl, Option, Some, None, sym, subst, ◌∙◌}
use Rattle.std.specs.Option.{option_map}
use Rattle.std.specs.FinMap as map
use Rattle.bt_mapkind.specs.Exchange.{exchanged}
use Rattle.bt_mapkind.proofs.Stays.{stays}
use Rattle.bt_mapkind.proofs.Fresh.{fresh_is_well}
use Rattle.bt_roots.specs.declared.target.Target.{Target}
use Rattle.host_state.specs.State.{HostMap, State, made}
use Rattle.host_state.specs.Settled.{revived}
use Rattle.host_state.specs.World.{Ready}
use Rattle.host_state.proofs.ByIdLemmas.{same_some, at_put}
use Rattle.host_state.proofs.RetireLemmas.{map_revived, get-revived}
use Rattle.host_undoing.specs.declared.undoing.Part.{Part}
use Rattle.host_undoing.specs.declared.undoing.Part.TheVariants.{Contents, Frozen, Presence, Program, Pinned}
use Rattle.host_undoing.specs.declared.undoing.Undoing.{Undoing}
use Rattle.host_undoing.specs.Exchange.{part_turned, turned, FitsPlace}
use Rattle.host_undoing.proofs.ContentsLemmas.{turned_there}
use Rattle.host_undoing.proofs.Parts.{frozen_turned}
use Rattle.host_apart.specs.Laws.{IsWellMap, AreWell, TurnsWell}

-- a map that is put holds what it can hold
put_well : (s : State) (id : ℕ) (n : HostMap) → AreWell s → IsWellMap n → AreWell (record s { maps = map.insert s.maps id n })
put_well s id n w new q m =
    at_put s.maps id q (Some n) (λ o. o ≡ Some m → IsWellMap m) (λ is at. subst IsWellMap (same_some at) new) (w q m)

revived_well : (s : State) (targets : List Target) (live : Bool) → AreWell s → AreWell (revived s targets live)
revived_well s targets live w q n at = by (map.get s.maps q) refl (sym (get-revived s targets live q) ∙ at)
  where
    by : (o : Option HostMap) → map.get s.maps q ≡ o → option_map (map_revived targets live q) o ≡ Some n → IsWellMap n
    by None is e = cc
    by (Some m) is e = subst IsWellMap (same_some e) (w q m is)

part_well : (ready : Ready) (s : State) (part : Part) → AreWell s → FitsPlace ready s part → AreWell (part_turned s part)
unfolding part_turned
part_well ready s (Contents id k) w place =
    subst AreWell (sym (turned_there s id place.0 k place.1))
    (put_well s id (record place.0 { contents = (exchanged place.0.contents k.back).0 }) w
    ((stays place.0.attr place.0.contents k.back (record { well = (w id place.0 place.1).0; fits = place.2.fits })).well, (w id place.0 place.1).1))
part_well ready s (Frozen id frozen) w place = by (map.get s.maps id) refl
  where
    by : (o : Option HostMap) → map.get s.maps id ≡ o → AreWell (frozen_turned s id frozen o)
    by None is = w
    by (Some m) is = put_well s id (record m { frozen = frozen }) w (w id m is)
part_well ready s (Presence id make None pin) w place = λ q m. at_put s.maps id q None (λ o. o ≡ Some m → IsWellMap m) (λ is at. cc at) (w q m)
part_well ready s (Presence id make (Some entry) pin) w place =
    λ q m. at_put s.maps id q (Some (made make entry)) (λ o. o ≡ Some m → IsWellMap m) (λ is at. subst IsWellMap (same_some at) (fresh_is_well make.attr, place.0.0)) (w q m)
part_well ready s (Program id prog pin) w place = w
part_well ready s (Pinned pin) w place = w

pub turned_well : (ready : Ready) (s : State) (u : Undoing) → TurnsWell ready s u
unfolding turned
turned_well ready s u w f = revived_well (part_turned s u.part) u.retired.targets u.retired.live (part_well ready s u.part w f.place)
