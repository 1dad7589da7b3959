-- How many moments there are, and what the newest one is.
use Rattle.std.proofs.Common.{◌≡◌, ℕ, suc, List, [], ◌∷◌, length, reverse, refl, sym, ◌∙◌, ap, subst}
use Rattle.std.proofs.lemmas.List.{length-reverse}
use Rattle.host_state.specs.State.{State}
use Rattle.host_state.specs.World.{Ready}
use Rattle.journal_model.specs.Replay.{Entry}
use Rattle.journal_model.specs.Plain.{now, newest_state, newest_force}
use Rattle.journal_record.specs.After.{state_after}
use Rattle.journal_record.specs.Recorded.{Recorded}
use Rattle.journal_moments.specs.Line.{entries, Leads, Down, other_force, pasts_down, pasts_up}
use Rattle.journal_moments.specs.Held.{Held, base_of, pasts_of, Sound}
use Rattle.journal_moments.specs.MomentView.{MomentView}
use Rattle.journal_moments.proofs.HeldLemmas.{pasts_is}

pub length-pasts_down : (base : State) (es : List Entry) (ms : List MomentView) → length (pasts_down base es ms) ≡ length ms
length-pasts_down base es [] = refl
length-pasts_down base es (m ∷ ms) = ap (λ n. suc n) (length-pasts_down base (other_force es m) ms)

length-pasts_up : (base : State) (es : List Entry) (ms : List MomentView) → length (pasts_up base es ms) ≡ length ms
length-pasts_up base es [] = refl
length-pasts_up base es (m ∷ ms) = ap (λ n. suc n) (length-pasts_up base (other_force es m) ms)

pub length-moments : (a : Held) → length (pasts_of a).moments ≡ length a.moments
unfolding pasts_of
length-moments a = length-pasts_down (base_of a) (entries a.records) (reverse a.moments) ∙ length-reverse a.moments

pub length-undone : (a : Held) → length (pasts_of a).undone ≡ length a.undone
unfolding pasts_of
length-undone a = length-pasts_up (base_of a) (entries a.records) a.undone

pub newest_down : (ready : Ready) (base w : State) (rs : List Recorded) (room : ℕ) (ms : List MomentView) → Leads ready base w rs → Down ready base rs room ms → newest_state base (pasts_down base (entries rs) ms) ≡ w
newest_down ready base w rs room [] h d = subst (λ xs. state_after base (entries xs) ≡ w) d (sym h.top)
newest_down ready base w rs room (m ∷ ms) h d = sym h.top

pub force_down : (ready : Ready) (base : State) (rs : List Recorded) (room : ℕ) (ms : List MomentView) → Down ready base rs room ms → newest_force (pasts_down base (entries rs) ms) ≡ entries rs
force_down ready base rs room [] d = ap entries (sym d)
force_down ready base rs room (m ∷ ms) d = refl

-- the state now is the world's
pub now-pasts_of : (a : Held) → Sound a → now (pasts_of a) ≡ a.world.state
now-pasts_of a s = ap now (pasts_is a) ∙ newest_down a.world.ready (base_of a) a.world.state a.records _ (reverse a.moments) s.leads s.down

pub force-pasts_of : (a : Held) → Sound a → newest_force (pasts_of a).moments ≡ entries a.records
force-pasts_of a s = ap (λ p. newest_force p.moments) (pasts_is a) ∙ force_down a.world.ready (base_of a) a.records _ (reverse a.moments) s.down
