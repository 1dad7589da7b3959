-- A freeze of a world is what `act` says, its undoing joins the two states, and the world stays sound.
use Rattle.std.proofs.Common.{◌≡◌, ℕ, Bool, true, false, [], Some, None, Ok, refl, sym, ap, subst, ◌∙◌}
use Rattle.std.specs.Prelude.{if◌then◌else◌}
use Rattle.std.specs.FinSet as set
use Rattle.bt_mapkind.specs.declared.errno.Errno.TheVariants.{ENOENT, EBUSY}
use Rattle.bt_mapkind.specs.Seen.{Seen}
use Rattle.bt_objects.specs.Boxes.{ById, make_of}
use Rattle.bt_roots.specs.View.{RootsView}
use Rattle.host_state.specs.declared.change.Change.TheVariants.{Freeze}
use Rattle.host_state.specs.declared.reply.Reply.TheVariants.{Done}
use Rattle.host_state.specs.declared.reply.Refusal.TheVariants.{Errno}
use Rattle.host_undoing.specs.declared.undoing.Part.TheVariants.{Frozen}
use Rattle.host_state.specs.declared.retirement.Retirement.{Retirement}
use Rattle.bt_roots.specs.declared.target.Target.TheVariants.{Map}
use Rattle.host_state.specs.Settled.{settle, IsSettled, is_live_map, is_live_in}
use Rattle.host_state.specs.Act.{act, if_live, live_map, with_frozen}
use Rattle.host_state.proofs.Tests.{frozen_at, unless_frozen}
use Rattle.host_state.specs.State.{hosted}
use Rattle.host_state.specs.Hosts.{Entries, entry_at, held, state_of, ready_of, view_of, frozen_of, PutsEntry, IsSound, live_in}
use Rattle.host_state.proofs.HostLemmas.{frozen_as, get-hosts_of, IsLive, nothing_live}
use Rattle.host_undoing.specs.Exchange.{back_of, Joins}
use Rattle.host_undoing.proofs.Parts.{LivesInOne, PartJoins, IsApplied}
use Rattle.host_undoing.specs.Answers.{Retires, IsReason, IsUnchanged}
use Rattle.host_state.proofs.ByIdLemmas.{same_some}
use Rattle.host_state.proofs.RoomLemmas.{room_stays}
use Rattle.host_state.proofs.SettleLemmas.{settle_settled, settled_frozen}
use Rattle.host_undoing.proofs.RetiringLemmas.{plain_joins, nothing_retires}
use Rattle.host_state.proofs.RetireLemmas.{first_lives, replaced_live}
use Rattle.host_undoing.proofs.FrozenLemmas.{IsHosted, built_after, frozen_joins, here, state_is}

-- ---- a freeze that is done
-- whether a live map is frozen is what is found of it
pub frozen_is : (boxes : ById Seen) (entries : Entries) (id : ℕ) (l : IsLive boxes entries id) (frozen : Bool) → frozen_of (held (entry_at entries id)) ≡ Some frozen → l.entry.frozen ≡ frozen
frozen_is boxes entries id l frozen e =
    same_some (sym (ap (λ o. frozen_of (held o)) l.entry_there ∙ ap (λ b. if b then Some l.entry.frozen else None) l.is_live) ∙ e)

pub live_hosted : (boxes : ById Seen) (entries : Entries) (id : ℕ) (l : IsLive boxes entries id) → IsHosted boxes entries id (hosted (make_of l.box) l.box.contents l.entry)
live_hosted boxes entries id l = record { box = l.box; entry = l.entry; there = l.there; entry_there = l.entry_there; is = refl }

live_map_is : (boxes : ById Seen) (entries : Entries) (roots : RootsView) (id : ℕ) → live_map (state_of boxes entries roots) id ≡ live_in boxes entries id
live_map_is boxes entries roots id = ap if_live (get-hosts_of boxes entries id)

pub freeze_done : (boxes : ById Seen) (old new : Entries) (roots : RootsView) (work : ℕ) (id : ℕ) (retired : Retirement) → IsSound boxes old roots → (l : IsLive boxes old id) → l.entry.frozen ≡ false
    → PutsEntry old new id (frozen_as true (entry_at old id)) → retired.targets ≡ [] → retired.live ≡ true
    → IsApplied (view_of boxes old roots work) (Freeze id) Done (record { part = Frozen id false; retired = retired }) (view_of boxes new roots work)
unfolding act
freeze_done boxes old new roots work id retired sound l free freezes none live =
    let s = state_of boxes old roots in
    let m = hosted (make_of l.box) l.box.contents l.entry in
    let h = live_hosted boxes old id l in
    let there = here boxes old new roots id true m sound.built h freezes in
    let now = state_is boxes old new roots id true m sound.built h freezes in
    let settled = settled_frozen s id m true there sound.settled in record {
      acts =
          ap (frozen_at s id) (live_map_is boxes old roots id ∙ l.live)
          ∙ ap (λ b. unless_frozen b (settle (with_frozen s id m true))) free
          ∙ ap (λ t. Ok (t, Done)) (settle_settled (with_frozen s id m true) settled ∙ sym now);
      joins =
          subst (λ t. Joins (ready_of boxes new roots) s t (record { part = Frozen id false; retired = retired }) (back_of t (record { part = Frozen id false; retired = retired }))) (sym now)
          (plain_joins (ready_of boxes new roots) s (with_frozen s id m true) (Frozen id false) (Frozen id true) retired
          (subst (λ b. PartJoins (ready_of boxes new roots) s (with_frozen s id m true) (Frozen id b) (Frozen id true)) free (frozen_joins (ready_of boxes new roots) s id m true there)) none live sound.settled settled
          (λ t e. subst (LivesInOne s (with_frozen s id m true)) (same_some e) (first_lives (is_live_in s (Map id)) (is_live_in (with_frozen s id m true) (Map id)) (ap is_live_map there ∙ l.is_live))));
      own = refl;
      retires = subst (λ t. Retires s t retired) (sym now) (nothing_retires s (with_frozen s id m true) retired none live (replaced_live s id m (record m { frozen = true }) there refl));
      boxes = record { makes = refl; progs = λ q there. ap (λ rs. set.contains rs q) (room_stays old new freezes.1) ∙ there; room = λ path there. there };
    }

pub freeze_sound : (boxes : ById Seen) (old new : Entries) (roots : RootsView) (id : ℕ) → IsSound boxes old roots → (l : IsLive boxes old id) → PutsEntry old new id (frozen_as true (entry_at old id)) → IsSound boxes new roots
freeze_sound boxes old new roots id sound l freezes =
    let s = state_of boxes old roots in
    let m = hosted (make_of l.box) l.box.contents l.entry in
    let h = live_hosted boxes old id l in record {
      built = built_after boxes old new roots id true m sound.built h freezes;
      settled = subst IsSettled (sym (state_is boxes old new roots id true m sound.built h freezes)) (settled_frozen s id m true (here boxes old new roots id true m sound.built h freezes) sound.settled);
    }

-- ---- a freeze that is refused
same : (boxes : ById Seen) (entries : Entries) (roots : RootsView) (work : ℕ) → IsUnchanged (view_of boxes entries roots work) (view_of boxes entries roots work)
same boxes entries roots work = record { state = refl; boxes = record { makes = refl; progs = λ q there. there; room = λ path there. there } }

pub not_there : (boxes : ById Seen) (entries : Entries) (roots : RootsView) (work : ℕ) (id : ℕ) → frozen_of (held (entry_at entries id)) ≡ None
    → IsReason (view_of boxes entries roots work) (Freeze id) (Errno ENOENT) × IsUnchanged (view_of boxes entries roots work) (view_of boxes entries roots work)
unfolding act
not_there boxes entries roots work id none =
    ((tt, ap (frozen_at (state_of boxes entries roots) id) (live_map_is boxes entries roots id ∙ nothing_live boxes entries id none)), same boxes entries roots work)

pub frozen_already : (boxes : ById Seen) (entries : Entries) (roots : RootsView) (work : ℕ) (id : ℕ) → (l : IsLive boxes entries id) → l.entry.frozen ≡ true
    → IsReason (view_of boxes entries roots work) (Freeze id) (Errno EBUSY) × IsUnchanged (view_of boxes entries roots work) (view_of boxes entries roots work)
unfolding act
frozen_already boxes entries roots work id l is =
    let s = state_of boxes entries roots in
    let m = hosted (make_of l.box) l.box.contents l.entry in
    ((tt, ap (frozen_at s id) (live_map_is boxes entries roots id ∙ l.live) ∙ ap (λ b. unless_frozen b (settle (with_frozen s id m true))) is), same boxes entries roots work)
