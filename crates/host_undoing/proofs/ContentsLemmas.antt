-- An exchange of what a map holds joins the states before and after an operation.
use Rattle.std.proofs.Common.{◌≡◌, ◌≤◌, ℕ, true, false, List, Some, sym, ap, ◌∙◌}
use Rattle.std.specs.Option.{option_map}
use Rattle.std.specs.FinMap as map
use Rattle.bt_mapkind.specs.declared.exchange.Back.{Back}
use Rattle.bt_mapkind.specs.Contents.{Contents as Held}
use Rattle.bt_mapkind.specs.Exchange.{exchange_fits, exchanged}
use Rattle.bt_mapkind.specs.Laws.{IsTurnable}
use Rattle.bt_mapkind.proofs.Stays.{stays}
use Rattle.bt_mapkind.proofs.Twice.{twice}
use Rattle.bt_roots.specs.declared.target.Target.{Target}
use Rattle.host_undoing.specs.declared.undoing.Part.TheVariants.{Contents}
use Rattle.bt_mapkind.specs.Kept.{Kept, room_of}
use Rattle.host_state.specs.State.{HostMap, State}
use Rattle.host_state.specs.Act.{with_contents}
use Rattle.host_state.specs.Settled.{revived}
use Rattle.host_state.specs.World.{Ready}
use Rattle.host_undoing.specs.Exchange.{part_turned, part_back}
use Rattle.host_undoing.proofs.Parts.{PartJoins, contents_turned, contents_back}
use Rattle.host_state.proofs.ByIdLemmas.{get-put_same, put_twice, put_there, mapped-put}
use Rattle.host_undoing.proofs.RetiringLemmas.{IsApart}
use Rattle.host_state.proofs.RetireLemmas.{map_revived, get-revived}

-- the state that turning leaves, and what is then held, if the map is there
pub turned_there : (s : State) (id : ℕ) (m : HostMap) (k : Kept) → map.get s.maps id ≡ Some m → part_turned s (Contents id k) ≡ with_contents s id m (exchanged m.contents k.back).0
unfolding part_turned
turned_there s id m k there = ap (contents_turned s id k.back) there

pub back_there : (s : State) (id : ℕ) (m : HostMap) (k : Kept) → map.get s.maps id ≡ Some m → part_back s (Contents id k) ≡ Contents id (record k { back = (exchanged m.contents k.back).1 })
unfolding part_back
back_there s id m k there = ap (λ o. Contents id (contents_back k o)) there

-- other contents, and then the former ones
restored : (s : State) (id : ℕ) (m : HostMap) (new : Held) → map.get s.maps id ≡ Some m → with_contents (with_contents s id m new) id (record m { contents = new }) m.contents ≡ s
restored s id m new there = λ i. record s { maps = (put_twice s.maps id (Some (record m { contents = new })) (Some m) ∙ put_there s.maps id (Some m) there) i }

module _ (ready : Ready) (s : State) (id : ℕ) (m : HostMap) (k : Kept) (after : Held) (there : map.get s.maps id ≡ Some m) (t : IsTurnable m.attr after k.back)
    (restores : (exchanged after k.back).0 ≡ m.contents) (room : room_of m.attr ≤ k.room) where
  new : HostMap
  new = record m { contents = after }

  there_after : map.get (with_contents s id m after).maps id ≡ Some new
  unfolding new
  there_after = get-put_same s.maps id (Some new)

  other : Kept
  other = record k { back = (exchanged after k.back).1 }

  turned_twice : exchanged m.contents other.back ≡ (after, k.back)
  unfolding other
  turned_twice = ap (λ c. exchanged c (exchanged after k.back).1) (sym restores) ∙ twice m.attr after k.back t.fits

  other_fits : exchange_fits m.attr m.contents other.back ≡ true
  unfolding other
  other_fits = ap (λ c. exchange_fits m.attr c (exchanged after k.back).1) (sym restores) ∙ (stays m.attr after k.back t).fits

  back_state : part_turned (with_contents s id m after) (Contents id k) ≡ s
  unfolding new
  back_state = turned_there (with_contents s id m after) id new k there_after ∙ ap (with_contents (with_contents s id m after) id new) restores ∙ restored s id m after there

  back_face : part_back (with_contents s id m after) (Contents id k) ≡ Contents id other
  unfolding new other
  back_face = back_there (with_contents s id m after) id new k there_after

  forth_state : part_turned s (Contents id other) ≡ with_contents s id m after
  unfolding other
  forth_state = turned_there s id m other there ∙ ap (λ (p : Held × Back). with_contents s id m p.0) turned_twice

  forth_face : part_back s (Contents id other) ≡ Contents id k
  unfolding other
  forth_face = back_there s id m other there ∙ ap (λ (p : Held × Back). Contents id (record k { back = p.1 })) turned_twice

  pub contents_joins : PartJoins ready s (with_contents s id m after) (Contents id k) (Contents id (record k { back = (exchanged after k.back).1 }))
  unfolding new other
  contents_joins = record {
    back_place = (new, there_after, record { fits = t.fits; room = room });
    back_state = back_state;
    back_face = back_face;
    forth_place = (m, there, record { fits = other_fits; room = room });
    forth_state = forth_state;
    forth_face = forth_face;
  }

-- what retires has its contents exchanged all the same
revived_there : (s : State) (id : ℕ) (m : HostMap) (targets : List Target) → map.get s.maps id ≡ Some m → map.get (revived s targets false).maps id ≡ Some (map_revived targets false id m)
revived_there s id m targets there = get-revived s targets false id ∙ ap (option_map (map_revived targets false id)) there

revived_contents : (s : State) (id : ℕ) (m : HostMap) (targets : List Target) (new : Held) → with_contents (revived s targets false) id (map_revived targets false id m) new ≡ revived (with_contents s id m new) targets false
unfolding revived
revived_contents s id m targets new = λ i. record (revived s targets false) { maps = sym (mapped-put (map_revived targets false) s.maps id (Some (record m { contents = new }))) i }

pub contents_apart : (ready : Ready) (s : State) (id : ℕ) (m : HostMap) (k : Kept) (targets : List Target) → map.get s.maps id ≡ Some m → exchange_fits m.attr m.contents k.back ≡ true → room_of m.attr ≤ k.room
    → IsApart ready s (Contents id k) targets
contents_apart ready s id m k targets there fits room = record {
  state =
      turned_there (revived s targets false) id (map_revived targets false id m) k (revived_there s id m targets there)
      ∙ revived_contents s id m targets (exchanged m.contents k.back).0
      ∙ ap (λ x. revived x targets false) (sym (turned_there s id m k there));
  back = back_there (revived s targets false) id (map_revived targets false id m) k (revived_there s id m targets there) ∙ sym (back_there s id m k there);
  place = (map_revived targets false id m, revived_there s id m targets there, record { fits = fits; room = room });
}
