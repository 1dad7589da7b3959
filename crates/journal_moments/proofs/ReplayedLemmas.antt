-- Each moment's state is the replay of its list in force.
use Rattle.std.proofs.Common.{◌≡◌, ℕ, List, [], ◌∷◌, Ok, Err, Result, true, cond, refl, ◌∙◌, ap, subst, reverse, eq-eqb}
use Rattle.std.proofs.lemmas.Cmp.{nat_list_eq_equiv}
use Rattle.host_state.specs.State.{State}
use Rattle.host_state.specs.World.{Ready}
use Rattle.host_state.specs.Act.{act}
use Rattle.host_state.specs.declared.reply.Reply.{Reply}
use Rattle.host_state.specs.declared.reply.Reply.TheVariants.{Done, Id, Loaded, Value, Old}
use Rattle.journal_model.specs.Replay.{replay, as_before, go_on, is_same_reply}
use Rattle.journal_record.specs.After.{after, state_after}
use Rattle.journal_record.specs.Recorded.{Recorded}
use Rattle.journal_moments.specs.Line.{entries, IsStanding, AllStanding, swapped, Down, Up, past, pasts_down, pasts_up}
use Rattle.journal_moments.specs.Held.{Held, base_of, pasts_of, Sound}
use Rattle.journal_moments.specs.Replayed.{AllReplayed}
use Rattle.journal_moments.specs.MomentView.{MomentView}
use Rattle.journal_moments.proofs.SwapLemmas.{AllStanding-swapped, entries-swapped}

pub is_same_reply-refl : (r : Reply) → is_same_reply r r ≡ true
is_same_reply-refl Done = refl
is_same_reply-refl (Id n) = eq-eqb n n refl
is_same_reply-refl (Loaded n) = eq-eqb n n refl
is_same_reply-refl (Value xs) = nat_list_eq_equiv.refl xs
is_same_reply-refl (Old n) = eq-eqb n n refl

pub as_before-standing : (ready : Ready) (s : State) (r : Recorded) → IsStanding ready s r → as_before r.entry (act s r.entry.change) ≡ Ok (after s r.entry)
as_before-standing ready s r h =
    ap (as_before r.entry) h.acts
    ∙ ap (λ b. let p : Result State ℕ = cond b (Ok (after s r.entry)) (Err r.entry.serial) in p) (is_same_reply-refl r.entry.reply)

pub replay_standing : (ready : Ready) (s : State) (rs : List Recorded) → AllStanding ready s rs → replay s (entries rs) ≡ Ok (state_after s (entries rs))
replay_standing ready s [] h = refl
replay_standing ready s (r ∷ rs) h =
    ap (λ x. go_on x (λ t. replay t (entries rs))) (as_before-standing ready s r h.0) ∙ replay_standing ready (after s r.entry) rs h.1

replayed_down : (ready : Ready) (base : State) (rs : List Recorded) (room : ℕ) (ms : List MomentView) → AllStanding ready base rs → Down ready base rs room ms → AllReplayed base (pasts_down base (entries rs) ms)
replayed_down ready base rs room [] h d = tt
replayed_down ready base rs room (m ∷ ms) h d = (
  replay_standing ready base rs h,
  subst (λ es. AllReplayed base (pasts_down base es ms)) (entries-swapped base rs m)
      (replayed_down ready base (swapped base rs m) room ms (AllStanding-swapped ready base (state_after base (entries rs)) rs room m (record { standing = h; top = refl }) d.0) d.1),
)

replayed_up : (ready : Ready) (base : State) (rs : List Recorded) (room : ℕ) (ms : List MomentView) → AllStanding ready base rs → Up ready base rs room ms → AllReplayed base (pasts_up base (entries rs) ms)
replayed_up ready base rs room [] h d = tt
replayed_up ready base rs room (m ∷ ms) h d =
    let k : AllStanding ready base (swapped base rs m) = AllStanding-swapped ready base (state_after base (entries rs)) rs room m (record { standing = h; top = refl }) d.0 in
    subst (λ es. AllReplayed base (past base es m ∷ pasts_up base es ms)) (entries-swapped base rs m)
    (replay_standing ready base (swapped base rs m) k, replayed_up ready base (swapped base rs m) room ms k d.1)

pub replayed_moments : (a : Held) → Sound a → AllReplayed (pasts_of a).base (pasts_of a).moments
unfolding pasts_of
replayed_moments a s = replayed_down a.world.ready (base_of a) a.records _ (reverse a.moments) s.leads.standing s.down

pub replayed_undone : (a : Held) → Sound a → AllReplayed (pasts_of a).base (pasts_of a).undone
unfolding pasts_of
replayed_undone a s = replayed_up a.world.ready (base_of a) a.records _ a.undone s.leads.standing s.up
