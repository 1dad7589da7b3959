-- What a change of one key of a map of bytes leaves, for what comes after it.
use Rattle.std.proofs.Common.{◌≡◌, ℕ, true, false, List, Some, Ok, refl, sym, ap, ◌∙◌}
use Rattle.std.specs.Option.{option_map_or}
use Rattle.std.specs.FinMap as map
use Rattle.bt_mapkind.specs.declared.request.MapOp.{MapOp}
use Rattle.bt_mapkind.specs.declared.request.MapOp.TheVariants.{SetLink}
use Rattle.bt_mapkind.specs.Kept.{is_keyed}
use Rattle.bt_mapkind.specs.Laws.{IsTakenBack}
use Rattle.bt_mapkind.specs.Well.{shape_of_type}
use Rattle.bt_mapkind.proofs.Turning.{taken_back}
use Rattle.bt_mapkind.proofs.Stays.{no_fit}
use Rattle.map_laws.specs.Place.{is_put, is_by_key}
use Rattle.map_laws.proofs.Again.{puts_again as puts_what_it_put}
use Rattle.host_state.specs.declared.change.Change.{Change}
use Rattle.host_state.specs.declared.change.Change.TheVariants.{Create, Operate, Freeze, Link, Load, Pin, Unpin, Attach, Detach}
use Rattle.host_state.specs.declared.change.Origin.{Origin}
use Rattle.host_state.specs.declared.reply.Reply.{Reply}
use Rattle.host_state.specs.State.{State}
use Rattle.host_state.specs.Settled.{IsSettled}
use Rattle.host_state.specs.Act.{act}
use Rattle.host_state.proofs.ByIdLemmas.{get-put_same}
use Rattle.host_undoing.specs.declared.undoing.Part.{Part}
use Rattle.host_undoing.specs.declared.undoing.Undoing.{Undoing}
use Rattle.host_undoing.specs.Answers.{ExchangesFor, IsOwn}
use Rattle.host_apart.specs.Alike.{IsFirst, LeavesFirst}
use Rattle.host_apart.specs.Laws.{IsWellMap, AreWell, RetiresJust}
use Rattle.host_apart.specs.Spots.{back_of_part, is_keyed_back}
use Rattle.host_apart.proofs.AlikeLemmas.{back_part}
use Rattle.host_apart.proofs.OperatedLemmas.{keyed_by_key, operated_plain, retires_nothing}
use Rattle.host_apart.proofs.Spots.{no_link}

-- the exchange of an operation
own_keyed : (s : State) (id : ℕ) (op : MapOp) (part : Part) (own : ExchangesFor s id op part) → is_keyed_back (back_of_part part) ≡ true → is_keyed own.changed.back ≡ true
own_keyed s id op part own keyed = sym (ap (λ (p : Part). is_keyed_back (back_of_part p)) own.is) ∙ keyed

-- a map of which it is one key holds bytes under keys
own_by_key : (s : State) (id : ℕ) (op : MapOp) (part : Part) (own : ExchangesFor s id op part) → IsWellMap own.host → is_keyed own.changed.back ≡ true → is_by_key (shape_of_type own.host.attr.kind) ≡ true
own_by_key s id op part own well keyed =
    let back : IsTakenBack own.host.attr own.host.contents own.changed = taken_back own.host.attr own.host.contents op own.changed well.0 own.step in
    ap is_by_key back.turnable.well.shape ∙ keyed_by_key own.host.attr own.changed.contents own.changed.back keyed back.turnable.fits

module _ (s t : State) (reply : Reply) (u : Undoing) (well : AreWell s) (settled : IsSettled s) (keyed : is_keyed_back (back_of_part u.part) ≡ true) (just : RetiresJust s t u.retired.targets) where
  operated : (origin : Origin) (id : ℕ) (op : MapOp) → act s (Operate origin id op) ≡ Ok (t, reply) → ExchangesFor s id op u.part → IsFirst t (Operate origin id op) u
  operated origin id op e own = record {
    one = record {
      origin = origin;
      id = id;
      op = op;
      kept = record { back = own.changed.back; room = own.room };
      change_is = refl;
      part_is = own.is;
      keyed = keyed_changed;
      none = retires_nothing s t origin id op reply u.part u.retired.targets well settled e own keyed just;
    };
    puts =
        ap (λ (p : Part). option_map_or is_put (back_of_part p) false) (back_part t u id (record own.host { contents = own.changed.contents }) (record { back = own.changed.back; room = own.room }) own.is there)
        ∙ puts_what_it_put own.host.attr own.host.contents op own.changed (well id own.host own.there).0 (own_by_key s id op u.part own (well id own.host own.there) keyed_changed) own.step;
  }
    where
      keyed_changed : is_keyed own.changed.back ≡ true
      keyed_changed = own_keyed s id op u.part own keyed

      there : map.get t.maps id ≡ Some (record own.host { contents = own.changed.contents })
      there =
          ap (λ (x : State). map.get x.maps id) (operated_plain s t origin id op reply own.host own.changed own.there own.step (well id own.host own.there).0 (own_keyed s id op u.part own keyed) settled e)
          ∙ get-put_same s.maps id (Some (record own.host { contents = own.changed.contents }))

  linked : (q : ℕ) (key : List ℕ) (named flag : ℕ) → ExchangesFor s q (SetLink key named flag) u.part → true ≡ false
  linked q key named flag own =
      let w = well q own.host own.there in
      no_link own.host.attr own.host.contents key named flag own.changed
      (ap is_by_key (sym w.0.shape) ∙ own_by_key s q (SetLink key named flag) u.part own w (own_keyed s q (SetLink key named flag) u.part own keyed)) own.step

  other : (p : Part) → u.part ≡ p → is_keyed_back (back_of_part p) ≡ false → true ≡ false
  other p is none = sym keyed ∙ ap (λ (x : Part). is_keyed_back (back_of_part x)) is ∙ none

  leaves : (change : Change) → act s change ≡ Ok (t, reply) → IsOwn s change u.part → IsFirst t change u
  leaves (Create q attr charge name path template) e own = no_fit (sym (other _ own.1 refl))
  leaves (Operate origin id op) e own = operated origin id op e own
  leaves (Freeze q) e own = no_fit (sym (other _ own refl))
  leaves (Link q key named flag) e own = no_fit (sym (linked q key named flag own))
  leaves (Load q code name path) e own = no_fit (sym (other _ own.1 refl))
  leaves (Pin target path) e own = no_fit (sym (other _ own.1 refl))
  leaves (Unpin path) e own = no_fit (sym (other _ own.1 refl))
  leaves (Attach prog device overwrite) e own = no_fit (sym (other _ own.1 refl))
  leaves (Detach device) e own = no_fit (sym (other _ own.1 refl))

pub leaves_first : (s t : State) (change : Change) (reply : Reply) (u : Undoing) → LeavesFirst s t change reply u
leaves_first s t change reply u well settled e own keyed just = leaves s t reply u well settled keyed just change e own
