-- An operation on a map of bytes, beside an exchange at another key of it.
use Rattle.std.proofs.Common.{◌≡◌, ◌≢◌, ◌≤◌, ℕ, Bool, true, false, ◌&&◌, not, Some, None, Ok, Err, cond, refl, sym, ap, subst, ◌∙◌}
use Rattle.std.specs.Prelude.{if◌then◌else◌}
use Rattle.std.specs.Option.{option_map}
use Rattle.std.specs.FinMap as map
use Rattle.bt_mapkind.specs.declared.attr.MapAttr.{MapAttr}
use Rattle.bt_mapkind.specs.declared.errno.Errno.TheVariants.{EINVAL, EPERM}
use Rattle.bt_mapkind.specs.declared.exchange.Back.{Back}
use Rattle.bt_mapkind.specs.declared.request.MapOp.{MapOp}
use Rattle.bt_mapkind.specs.Contents.{Contents as Held}
use Rattle.bt_mapkind.specs.Exchange.{exchange_fits, exchanged}
use Rattle.bt_mapkind.specs.Kept.{Kept, room_of}
use Rattle.bt_mapkind.specs.Step.{Step, Changed, map_step, is_flag, goes}
use Rattle.bt_mapkind.specs.Inner.{holds_ids}
use Rattle.bt_mapkind.specs.Laws.{IsTakenBack, IsTurnable}
use Rattle.bt_mapkind.specs.Well.{IsWell, shape_of_type}
use Rattle.bt_mapkind.proofs.Turning.{taken_back}
use Rattle.bt_mapkind.proofs.Stays.{stays}
use Rattle.map_laws.specs.Place.{place_of, place_of_op, is_put, is_new, is_by_key}
use Rattle.map_laws.specs.Laws.{forth_of, IsTurningAtItsPlace, EitherOrder, StepsBeside}
use Rattle.map_laws.proofs.Apart.{exchanges_apart}
use Rattle.map_laws.proofs.AtPlaces.{changes_at_its_place}
use Rattle.map_laws.proofs.Beside.{stays_beside}
use Rattle.host_state.specs.declared.change.Change.TheVariants.{Operate}
use Rattle.host_state.specs.declared.change.Origin.{Origin}
use Rattle.host_state.specs.State.{HostMap, State}
use Rattle.host_state.specs.Settled.{settle}
use Rattle.host_state.specs.Act.{Outcome, act, if_live, is_console, bars, flag_of, reply_of, operated_to, with_contents}
use Rattle.host_state.specs.World.{Ready}
use Rattle.host_state.proofs.Tests.{operated_at}
use Rattle.host_state.proofs.ByIdLemmas.{is_itself}
use Rattle.host_undoing.specs.declared.undoing.Part.TheVariants.{Contents}
use Rattle.host_undoing.proofs.ContentsLemmas.{turned_there, back_there}
use Rattle.host_apart.specs.Refilled.{KeepsIds, map_refilled, refilled, carried, exchanged_by}
use Rattle.host_apart.proofs.RefilledLemmas.{get-refilled, put_refilled, settle_refilled}
use Rattle.host_apart.proofs.Commuting.{Commutes}

-- ---- the map itself
pub refilled_here : (id : ℕ) (f : Held → Held) (m : HostMap) → map_refilled id f id m ≡ record m { contents = f m.contents }
refilled_here id f m = ap (λ b. record m { contents = cond b (f m.contents) m.contents }) (is_itself id)

pub there_here : (s : State) (id : ℕ) (f : Held → Held) (m : HostMap) → map.get s.maps id ≡ Some m → map.get (refilled s id f).maps id ≡ Some (record m { contents = f m.contents })
there_here s id f m there = get-refilled id f s id ∙ ap (option_map (map_refilled id f id)) there ∙ ap Some (refilled_here id f m)

pub with_contents_here : (s : State) (id : ℕ) (f : Held → Held) (m : HostMap) (new : Held) → with_contents (refilled s id f) id (record m { contents = f m.contents }) (f new) ≡ refilled (with_contents s id m new) id f
with_contents_here s id f m new =
    (λ i. record (refilled s id f) { maps = map.insert (refilled s id f).maps id (sym (refilled_here id f (record m { contents = new })) i) })
    ∙ put_refilled id f s id (record m { contents = new })

-- ---- an operation whose step is the same after
pub operates_refilled : (s : State) (origin : Origin) (id : ℕ) (f : Held → Held) (op : MapOp) (m : HostMap) (changed : Changed) → KeepsIds f → map.get s.maps id ≡ Some m → map_step m.attr m.contents op ≡ Ok changed
    → map_step m.attr (f m.contents) op ≡ goes (f changed.contents) changed.reply changed.back → act (refilled s id f) (Operate origin id op) ≡ carried id f (act s (Operate origin id op))
unfolding act
operates_refilled s origin id f op m changed keeps there step after =
    ap (λ o. operated_at (refilled s id f) id (if_live o) origin op) (there_here s id f m there)
    ∙ by m.live
    ∙ sym (ap (λ o. carried id f (operated_at s id (if_live o) origin op)) there)
  where
    done : ◌≡◌ {A = Outcome} (operated_to (refilled s id f) id (record m { contents = f m.contents }) op (goes (f changed.contents) changed.reply changed.back)) (carried id f (operated_to s id m op (Ok changed)))
    done = λ i. Ok ((ap settle (with_contents_here s id f m changed.contents) ∙ settle_refilled id f keeps (with_contents s id m changed.contents)) i, reply_of op changed.reply)

    by_tests : (a b h : Bool) → (if a then Err EINVAL else if b then Err EPERM else if h then Err EINVAL else operated_to (refilled s id f) id (record m { contents = f m.contents }) op (goes (f changed.contents) changed.reply changed.back))
        ≡ carried id f (if a then Err EINVAL else if b then Err EPERM else if h then Err EINVAL else operated_to s id m op (Ok changed))
    by_tests true b h = refl
    by_tests false true h = refl
    by_tests false false true = refl
    by_tests false false false = done

    by : (live : Bool) → operated_at (refilled s id f) id (if live then Some (record m { contents = f m.contents }) else None) origin op ≡ carried id f (operated_at s id (if live then Some m else None) origin op)
    by false = refl
    by true =
        ap (λ (x : Step). if not (is_flag (flag_of op)) then Err EINVAL else if is_console origin && m.frozen then Err EPERM else if bars origin (holds_ids m.attr.kind) op then Err EINVAL else operated_to (refilled s id f) id (record m { contents = f m.contents }) op x) after
        ∙ by_tests (not (is_flag (flag_of op))) (is_console origin && m.frozen) (bars origin (holds_ids m.attr.kind) op)
        ∙ sym (ap (λ (x : Step). carried id f (if not (is_flag (flag_of op)) then Err EINVAL else if is_console origin && m.frozen then Err EPERM else if bars origin (holds_ids m.attr.kind) op then Err EINVAL else operated_to s id m op x)) step)

-- ---- an exchange at another key
-- two exchanges of one map in either order, the second of which fits after the first
pub commutes_beside : (ready : Ready) (s : State) (id : ℕ) (m : HostMap) (b : Back) (k : Kept) → map.get s.maps id ≡ Some m → EitherOrder m.contents b k.back
    → exchange_fits m.attr (exchanged m.contents b).0 k.back ≡ true → room_of m.attr ≤ k.room → Commutes ready s id (exchanged_by b) (Contents id k)
commutes_beside ready s id m b k there order fits room = record {
  turns =
      turned_there (refilled s id (exchanged_by b)) id (record m { contents = (exchanged m.contents b).0 }) k (there_here s id (exchanged_by b) m there)
      ∙ ap (with_contents (refilled s id (exchanged_by b)) id (record m { contents = (exchanged m.contents b).0 })) order.contents
      ∙ with_contents_here s id (exchanged_by b) m (exchanged m.contents k.back).0
      ∙ ap (λ x. refilled x id (exchanged_by b)) (sym (turned_there s id m k there));
  back =
      back_there (refilled s id (exchanged_by b)) id (record m { contents = (exchanged m.contents b).0 }) k (there_here s id (exchanged_by b) m there)
      ∙ ap (λ (other : Back). Contents id (record k { back = other })) order.second
      ∙ sym (back_there s id m k there);
  place = (record m { contents = (exchanged m.contents b).0 }, there_here s id (exchanged_by b) m there, record { fits = fits; room = room });
}

-- what an operation beside an exchange leaves, of one map
pub record StaysBoth (a : MapAttr) (c : Held) (u : Back) (op : MapOp) (changed : Changed) : Type 0 where
  pub steps : map_step a (exchanged c u).0 op ≡ goes (exchanged changed.contents u).0 changed.reply changed.back
  pub fits : exchange_fits a changed.contents u ≡ true
  pub face : (exchanged changed.contents u).1 ≡ (exchanged c u).1
  pub back_order : EitherOrder changed.contents u changed.back
  pub back_fits : exchange_fits a (exchanged changed.contents u).0 changed.back ≡ true
  pub forth_order : EitherOrder c u (forth_of changed)
  pub forth_fits : exchange_fits a (exchanged c u).0 (forth_of changed) ≡ true

pub stays_both : (a : MapAttr) (c : Held) (u : Back) (op : MapOp) (changed : Changed) → IsTurnable a c u → is_by_key (shape_of_type a.kind) ≡ true → map_step a c op ≡ Ok changed → place_of a u ≢ place_of_op a op
    → (is_put (exchanged c u).1 ≡ false → is_new changed.back ≡ false) → StaysBoth a c u op changed
stays_both a c u op changed t k e apart room =
    let at : IsTurningAtItsPlace a c op changed = changes_at_its_place a c op changed t.well e in
    let b : StepsBeside a c u op changed = stays_beside a c u op changed t k e apart room in
    let back : IsTakenBack a c changed = taken_back a c op changed t.well e in
    let well : IsWell a (exchanged c u).0 = (stays a c u t).well in
    let other : IsTakenBack a (exchanged c u).0 (record { contents = (exchanged changed.contents u).0; reply = changed.reply; back = changed.back }) =
    taken_back a (exchanged c u).0 op (record { contents = (exchanged changed.contents u).0; reply = changed.reply; back = changed.back }) well b.steps in
    let placed : IsTurningAtItsPlace a (exchanged c u).0 op (record { contents = (exchanged changed.contents u).0; reply = changed.reply; back = changed.back }) =
    changes_at_its_place a (exchanged c u).0 op (record { contents = (exchanged changed.contents u).0; reply = changed.reply; back = changed.back }) well b.steps in
    let order : EitherOrder changed.contents u changed.back = exchanges_apart a changed.contents u changed.back (record { well = back.turnable.well; fits = b.fits }) back.turnable.fits (λ same. apart (same ∙ at.back_place)) in
    record {
      steps = b.steps;
      fits = b.fits;
      face = b.face;
      back_order = order;
      back_fits = other.turnable.fits;
      forth_order = exchanges_apart a c u (forth_of changed) t at.fits (λ same. apart (same ∙ at.forth_place));
      forth_fits = subst (λ (x : Back). exchange_fits a (exchanged c u).0 x ≡ true) order.second placed.fits;
    }
