-- What a turning of a world leaves.
use Rattle.std.proofs.Common.{◌≡◌, ◌≤◌, ℕ, true, false, IsTrue, [], Option, Some, None, is_some, refl, sym, ap, subst, ◌∙◌}
use Rattle.std.specs.FinMap as map
use Rattle.bt_mapkind.specs.declared.exchange.Back.{Back}
use Rattle.bt_mapkind.specs.Contents.{Contents as Held}
use Rattle.bt_mapkind.specs.Attributes.{good}
use Rattle.bt_mapkind.specs.Seen.{Seen, IsFresh}
use Rattle.bt_mapkind.specs.Bounds.{AreBounded}
use Rattle.bt_mapkind.specs.Well.{IsWell}
use Rattle.bt_mapkind.specs.Laws.{IsTurnable}
use Rattle.bt_mapkind.specs.Exchange.{exchange_fits, exchanged}
use Rattle.bt_mapkind.proofs.Stays.{stays}
use Rattle.bt_objects.specs.Boxes.{ById, make_of}
use Rattle.bt_roots.specs.View.{RootsView}
use Rattle.host_state.specs.declared.entry.MapEntry.{MapEntry}
use Rattle.host_undoing.specs.declared.undoing.Part.TheVariants.{Contents}
use Rattle.bt_mapkind.specs.Kept.{Kept, room_of}
use Rattle.bt_objects.specs.ById.{put_at, mapped}
use Rattle.host_state.specs.State.{HostMap, State, hosted}
use Rattle.host_state.specs.Hosts.{Entries, entry_at, held, host_of, hosts_of, progs_of, state_of, ready_of, IsBuilt}
use Rattle.host_state.proofs.HostLemmas.{room_in, get-hosts_of, hosts_changed, makes_kept, held_some}
use Rattle.host_undoing.specs.Exchange.{part_turned, part_back, FitsIn, IsBoxTurned}
use Rattle.host_state.proofs.ByIdLemmas.{same_some, at_put}
use Rattle.host_undoing.proofs.ContentsLemmas.{turned_there, back_there}

abbrev pub FitsBox : ById Seen → ℕ → Kept → Type 0
FitsBox boxes id k = (box : Seen) × (map.get boxes id ≡ Some box) × FitsIn box.attr box.contents k

abbrev pub FitsContents : State → ℕ → Kept → Type 0
FitsContents s id k = (m : HostMap) × (map.get s.maps id ≡ Some m) × FitsIn m.attr m.contents k

-- the box of a map that an exchange fits
pub fits_box : (boxes : ById Seen) (entries : Entries) (roots : RootsView) (id : ℕ) (k : Kept) → FitsContents (state_of boxes entries roots) id k → FitsBox boxes id k
fits_box boxes entries roots id k f = at (map.get boxes id) (held (entry_at entries id)) refl (sym (get-hosts_of boxes entries id) ∙ f.1)
  where
    at : (b : Option Seen) (e : Option MapEntry) → map.get boxes id ≡ b → host_of b e ≡ Some f.0 → FitsBox boxes id k
    at None e is h = cc
    at (Some s) None is h = cc
    at (Some s) (Some entry) is h =
        let same : f.0 ≡ hosted (make_of s) s.contents entry = same_some (sym h) in (
          s,
          is,
          record {
            fits = subst (λ (m : HostMap). exchange_fits m.attr m.contents k.back ≡ true) same f.2.fits;
            room = subst (λ (m : HostMap). room_of m.attr ≤ k.room) same f.2.room;
          },
        )

-- the entry that is there
abbrev entry_found : Option MapEntry → MapEntry
entry_found None = record { name = []; frozen = false; live = false; template = None }
entry_found (Some entry) = entry

module _ (boxes new : ById Seen) (entries : Entries) (roots : RootsView) (id : ℕ) (k left : Kept) (built : IsBuilt boxes entries) (f : FitsContents (state_of boxes entries roots) id k)
    (v : IsBoxTurned boxes id k new left) where
  box_is : f.0 ≡ hosted (make_of v.before) v.before.contents (entry_found (held (entry_at entries id)))
  box_is = at (held (entry_at entries id)) (sym (ap (λ b. host_of b (held (entry_at entries id))) v.there) ∙ sym (get-hosts_of boxes entries id) ∙ f.1)
    where
      at : (e : Option MapEntry) → host_of (Some v.before) e ≡ Some f.0 → f.0 ≡ hosted (make_of v.before) v.before.contents (entry_found e)
      at None h = cc
      at (Some entry) h = same_some (sym h)

  entry_is : held (entry_at entries id) ≡ Some (entry_found (held (entry_at entries id)))
  entry_is = at (held (entry_at entries id)) (sym (ap (λ b. host_of b (held (entry_at entries id))) v.there) ∙ sym (get-hosts_of boxes entries id) ∙ f.1)
    where
      at : (e : Option MapEntry) → host_of (Some v.before) e ≡ Some f.0 → e ≡ Some (entry_found e)
      at None h = cc
      at (Some entry) h = refl

  fits_before : exchange_fits v.before.attr v.before.contents k.back ≡ true
  fits_before = subst (λ (m : HostMap). exchange_fits m.attr m.contents k.back ≡ true) box_is f.2.fits

  same_make : make_of v.after ≡ make_of v.before
  same_make = λ i. record { attr = v.turned.make.attr i; charge = v.turned.make.charge i }

  contents_is : (exchanged f.0.contents k.back).0 ≡ v.after.contents
  contents_is = ap (λ (m : HostMap). (exchanged m.contents k.back).0) box_is ∙ ap (λ (p : Held × Back). p.0) v.turned.exchange

  back_is : (exchanged f.0.contents k.back).1 ≡ left.back
  back_is = ap (λ (m : HostMap). (exchanged m.contents k.back).1) box_is ∙ ap (λ (p : Held × Back). p.1) v.turned.exchange

  pub contents_state : state_of new entries roots ≡ part_turned (state_of boxes entries roots) (Contents id k)
  contents_state =
      (λ i. record {
        maps = (
            ap (λ b. hosts_of b entries) v.boxes
            ∙ hosts_changed boxes entries id v.after
            ∙ ap (λ e. put_at (hosts_of boxes entries) id (host_of (Some v.after) e)) entry_is
            ∙ (λ j. put_at (hosts_of boxes entries) id (Some (hosted (same_make j) (sym contents_is j) (entry_found (held (entry_at entries id))))))
            ∙ ap (λ (m : HostMap). put_at (hosts_of boxes entries) id (Some (record m { contents = (exchanged f.0.contents k.back).0 }))) (sym box_is)
            ) i;
        progs = progs_of entries;
        pins = roots.pins;
        devices = roots.devices;
      })
      ∙ sym (turned_there (state_of boxes entries roots) id f.0 k f.1)

  pub contents_undoing : Contents id left ≡ part_back (state_of boxes entries roots) (Contents id k)
  contents_undoing =
      (λ i. Contents id (record { back = sym back_is i; room = v.room i }))
      ∙ sym (back_there (state_of boxes entries roots) id f.0 k f.1)

  pub contents_ready : ready_of new entries roots ≡ ready_of boxes entries roots
  contents_ready = λ i. record { makes = (ap (mapped (λ id s. make_of s)) v.boxes ∙ makes_kept boxes id v.before v.after v.there same_make) i; progs = room_in entries; room = roots.room }

  pub contents_built : IsBuilt new entries
  contents_built = record {
    same_ids = λ q. subst (λ b. is_some (entry_at entries q) ≡ is_some (map.get b q)) (sym v.boxes)
        (at_put boxes id q (Some v.after) (λ o. is_some (entry_at entries q) ≡ is_some o) (λ e. ap (λ x. is_some (entry_at entries x)) e ∙ ap is_some entry_there) (built.same_ids q));
    fresh = λ q s waits at. subst (λ b. map.get b q ≡ Some s → IsFresh s) (sym v.boxes)
        (at_put boxes id q (Some v.after) (λ o. o ≡ Some s → IsFresh s) (λ e at. cc (sym (ap (entry_at entries) e) ∙ waits, entry_there)) (built.fresh q s waits)) at;
    well = λ q s at. subst (λ b. map.get b q ≡ Some s → IsWell s.attr s.contents) (sym v.boxes)
        (at_put boxes id q (Some v.after) (λ o. o ≡ Some s → IsWell s.attr s.contents) (λ e at. subst (λ (x : Seen). IsWell x.attr x.contents) (same_some at) well_after) (built.well q s)) at;
    bounded = λ q s at. subst (λ b. map.get b q ≡ Some s → AreBounded s.contents) (sym v.boxes)
        (at_put boxes id q (Some v.after) (λ o. o ≡ Some s → AreBounded s.contents) (λ e at. subst (λ (x : Seen). AreBounded x.contents) (same_some at) (v.bounded (built.bounded id v.before v.there))) (built.bounded q s)) at;
    good_attr = λ q entry s is at. subst (λ b. map.get b q ≡ Some s → IsTrue (good s.attr)) (sym v.boxes)
        (at_put boxes id q (Some v.after) (λ o. o ≡ Some s → IsTrue (good s.attr))
        (λ e at. ap (λ (x : Seen). good x.attr) (sym (same_some at)) ∙ ap good v.turned.make.attr ∙ built.good_attr q entry v.before is (ap (map.get boxes) e ∙ v.there)) (built.good_attr q entry s is)) at;
  }
    where
      entry_there : entry_at entries id ≡ Some (Some (entry_found (held (entry_at entries id))))
      entry_there = held_some (entry_at entries id) (entry_found (held (entry_at entries id))) entry_is

      turnable : IsTurnable v.before.attr v.before.contents k.back
      turnable = record { well = built.well id v.before v.there; fits = fits_before }

      well_after : IsWell v.after.attr v.after.contents
      well_after =
          subst (λ a. IsWell a v.after.contents) (sym v.turned.make.attr)
          (subst (λ (p : Held × Back). IsWell v.before.attr p.0) v.turned.exchange (stays v.before.attr v.before.contents k.back turnable).well)
