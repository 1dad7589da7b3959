-- A timeline is as sound once the boxes that no moment has are dropped.
use Rattle.std.proofs.Common.{◌≡◌, ℕ, List, [], ◌∷◌, reverse, refl, sym, ap, subst}
use Rattle.host_state.specs.State.{State}
use Rattle.host_state.specs.World.{Ready, ListsAll, kept_ready}
use Rattle.journal_model.specs.Plain.{Past, newest_state}
use Rattle.journal_record.specs.After.{after, state_after}
use Rattle.journal_record.specs.Recorded.{Recorded}
use Rattle.journal_moments.specs.Line.{entries, AllStanding, AllLying, behind, under, swapped, CanSwap, Down, Up, other_force, pasts_down, pasts_up}
use Rattle.journal_moments.specs.Held.{Held, pasts_of, Sound}
use Rattle.journal_record.specs.Listed.{ListsMoments, ListsPasts}
use Rattle.journal_moments.specs.MomentView.{MomentView}
use Rattle.journal_moments.proofs.SwapLemmas.{entries-swapped, state_after-swapped}
use Rattle.journal_moments.proofs.HeldLemmas.{pasts_is}
use Rattle.journal_moments.proofs.NewestLemmas.{now-pasts_of}
use Rattle.journal_moments.proofs.GrownLemmas.{with_ready}
use Rattle.host_undoing.proofs.JoinsLemmas.{joins_kept}
use Rattle.host_state.proofs.Lasting.{lists_back}

-- what lists the last state lists the first
below_standing : (maps progs : List ℕ) (ready : Ready) (s : State) (rs : List Recorded) → AllStanding ready s rs → ListsAll maps progs (state_after s (entries rs)) → ListsAll maps progs s
below_standing maps progs ready s [] h l = l
below_standing maps progs ready s (r ∷ rs) h l = lists_back maps progs s (after s r.entry) r.entry.change r.entry.reply h.0.acts (below_standing maps progs ready (after s r.entry) rs h.1 l)

below_lying : (maps progs : List ℕ) (ready : Ready) (s : State) (rs : List Recorded) → AllLying ready s rs → ListsAll maps progs (state_after s (entries rs)) → ListsAll maps progs s
below_lying maps progs ready s [] h l = l
below_lying maps progs ready s (r ∷ rs) h l = lists_back maps progs s (after s r.entry) r.entry.change r.entry.reply h.0.acts (below_lying maps progs ready (after s r.entry) rs h.1 l)

AllStanding-kept : (maps progs : List ℕ) (ready : Ready) (s : State) (rs : List Recorded) → ListsAll maps progs (state_after s (entries rs)) → AllStanding ready s rs → AllStanding (kept_ready maps progs ready) s rs
AllStanding-kept maps progs ready s [] l h = tt
AllStanding-kept maps progs ready s (r ∷ rs) l h =
    let t : ListsAll maps progs (after s r.entry) = below_standing maps progs ready (after s r.entry) rs h.1 l in
    let b : ListsAll maps progs s = lists_back maps progs s (after s r.entry) r.entry.change r.entry.reply h.0.acts t in
    (record { acts = h.0.acts; own = h.0.own; bytes = h.0.bytes; joins = joins_kept maps progs ready s (after s r.entry) _ _ b t h.0.joins; retires = h.0.retires }, AllStanding-kept maps progs ready (after s r.entry) rs l h.1)

AllLying-kept : (maps progs : List ℕ) (ready : Ready) (s : State) (rs : List Recorded) → ListsAll maps progs (state_after s (entries rs)) → AllLying ready s rs → AllLying (kept_ready maps progs ready) s rs
AllLying-kept maps progs ready s [] l h = tt
AllLying-kept maps progs ready s (r ∷ rs) l h =
    let t : ListsAll maps progs (after s r.entry) = below_lying maps progs ready (after s r.entry) rs h.1 l in
    let b : ListsAll maps progs s = lists_back maps progs s (after s r.entry) r.entry.change r.entry.reply h.0.acts t in
    (record { acts = h.0.acts; own = h.0.own; bytes = h.0.bytes; joins = joins_kept maps progs ready s (after s r.entry) _ _ b t h.0.joins; retires = h.0.retires }, AllLying-kept maps progs ready (after s r.entry) rs l h.1)

CanSwap-kept : (maps progs : List ℕ) (ready : Ready) (base : State) (rs : List Recorded) (room : ℕ) (m : MomentView) → ListsAll maps progs (state_after base (entries (swapped base rs m))) → CanSwap ready base rs room m → CanSwap (kept_ready maps progs ready) base rs room m
CanSwap-kept maps progs ready base rs room m l k =
    let top : ListsAll maps progs (state_after (state_after (under base rs m) (entries (reverse m.other))) (entries (behind m.stays rs))) = subst (ListsAll maps progs) (state_after-swapped base rs m) l in
    record {
      within = k.within;
      lying = AllLying-kept maps progs ready _ _ (below_standing maps progs ready _ _ k.standing top) k.lying;
      standing = AllStanding-kept maps progs ready _ _ top k.standing;
      one = k.one;
      room_back = k.room_back;
      room_forth = k.room_forth;
    }

newest_listed : (maps progs : List ℕ) (base : State) (ms : List Past) → ListsAll maps progs base → ListsMoments maps progs ms → ListsAll maps progs (newest_state base ms)
newest_listed maps progs base [] b l = b
newest_listed maps progs base (m ∷ ms) b l = l.0

newest_is : (ready : Ready) (base : State) (rs : List Recorded) (room : ℕ) (ms : List MomentView) → Down ready base rs room ms → newest_state base (pasts_down base (entries rs) ms) ≡ state_after base (entries rs)
newest_is ready base rs room [] d = ap (λ xs. state_after base (entries xs)) (sym d)
newest_is ready base rs room (m ∷ ms) d = refl

Down-kept : (maps progs : List ℕ) (ready : Ready) (base : State) (rs : List Recorded) (room : ℕ) (ms : List MomentView) → ListsAll maps progs base → ListsMoments maps progs (pasts_down base (entries rs) ms) → Down ready base rs room ms → Down (kept_ready maps progs ready) base rs room ms
Down-kept maps progs ready base rs room [] b l h = h
Down-kept maps progs ready base rs room (m ∷ ms) b l h =
    let rest : ListsMoments maps progs (pasts_down base (entries (swapped base rs m)) ms) = subst (λ es. ListsMoments maps progs (pasts_down base es ms)) (sym (entries-swapped base rs m)) l.1 in
    let top : ListsAll maps progs (state_after base (entries (swapped base rs m))) = subst (ListsAll maps progs) (newest_is ready base (swapped base rs m) room ms h.1) (newest_listed maps progs base _ b rest) in
    (CanSwap-kept maps progs ready base rs room m top h.0, Down-kept maps progs ready base (swapped base rs m) room ms b rest h.1)

Up-kept : (maps progs : List ℕ) (ready : Ready) (base : State) (rs : List Recorded) (room : ℕ) (ms : List MomentView) → ListsMoments maps progs (pasts_up base (entries rs) ms) → Up ready base rs room ms → Up (kept_ready maps progs ready) base rs room ms
Up-kept maps progs ready base rs room [] l h = tt
Up-kept maps progs ready base rs room (m ∷ ms) l h =
    let back : other_force (entries rs) m ≡ entries (swapped base rs m) = sym (entries-swapped base rs m) in (
      CanSwap-kept maps progs ready base rs room m (subst (λ es. ListsAll maps progs (state_after base es)) back l.0) h.0,
      Up-kept maps progs ready base (swapped base rs m) room ms (subst (λ es. ListsMoments maps progs (pasts_up base es ms)) back l.1) h.1,
    )

-- the state as it is now is listed
pub now_listed : (maps progs : List ℕ) (a : Held) → Sound a → ListsPasts maps progs (pasts_of a) → ListsAll maps progs a.world.state
now_listed maps progs a s l = subst (ListsAll maps progs) (now-pasts_of a s) (newest_listed maps progs _ _ l.in_base l.in_moments)

pub Sound-kept : (maps progs : List ℕ) (a : Held) → ListsPasts maps progs (pasts_of a) → Sound a → Sound (with_ready a (kept_ready maps progs a.world.ready))
Sound-kept maps progs a l s =
    let p : ListsPasts maps progs _ = subst (ListsPasts maps progs) (pasts_is a) l in
    record {
      leads = record { standing = AllStanding-kept maps progs a.world.ready _ _ (subst (ListsAll maps progs) s.leads.top (now_listed maps progs a s l)) s.leads.standing; top = s.leads.top };
      down = Down-kept maps progs a.world.ready _ _ _ _ p.in_base p.in_moments s.down;
      up = Up-kept maps progs a.world.ready _ _ _ _ p.in_undone s.up;
      room_records = s.room_records;
      counts = s.counts;
    }
