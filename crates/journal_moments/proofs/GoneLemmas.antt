-- Moments as they show past the records that are gone.
use Rattle.std.proofs.Common.{◌≡◌, ℕ, zero, suc, ◌+◌, ◌-◌, List, [], ◌∷◌, length, map as each, take, drop, reverse, refl, sym, ◌∙◌, ap, ap₂, arith}
use Rattle.std.proofs.lemmas.List.{take_all, take-take, length-take-le}
use Rattle.host_state.specs.State.{State}
use Rattle.host_state.specs.World.{Ready}
use Rattle.journal_record.specs.Recorded.{Recorded}
use Rattle.journal_record.specs.After.{state_after}
use Rattle.journal_moments.specs.Calls.{calls_by, calls_to_swap}
use Rattle.journal_moments.specs.Line.{entries, laid, between, CanSwap, Exchanged, swapped}
use Rattle.journal_moments.specs.Lowered.{lowered, IsLowered, AllLowered}
use Rattle.journal_moments.specs.MomentView.{MomentView}
use Rattle.journal_moments.proofs.SwapLemmas.{SameExchange, swapped-same, CanSwap-same}

-- ---- more of them are gone
length-cut : (k : ℕ) (xs : List Recorded) → length (take (length xs - k) xs) ≡ length xs - k
length-cut k xs = length-take-le (length xs - k) xs (omega arith)

lowered_more : (n f : ℕ) (m : MomentView) → IsLowered n (lowered f m) (lowered (f + n) m)
lowered_more n f m =
    let xs : List Recorded = m.other in
    let left : ℕ = length xs - (f - m.at) in
    let fewer : length xs - ((f + n) - m.at) ≡ left - (n - (m.at - f)) = omega arith in
    record {
      at = omega arith;
      other = ap (λ k. take k xs) fewer
          ∙ sym (take-take (left - (n - (m.at - f))) left xs (omega arith))
          ∙ ap (λ k. take (k - (n - (m.at - f))) (take left xs)) (sym (length-cut (f - m.at) xs));
      serial = refl;
      out = refl;
      stays = refl;
      room = omega arith;
    }

pub AllLowered-more : (n f : ℕ) (ms : List MomentView) → AllLowered n (each (lowered f) ms) (each (lowered (f + n)) ms)
AllLowered-more n f [] = tt
AllLowered-more n f (m ∷ ms) = (lowered_more n f m, AllLowered-more n f ms)

-- or they were lowered by those that were gone
lowered_anew : (n f : ℕ) (m l : MomentView) → IsLowered f m l → IsLowered n (lowered f m) (lowered n l)
lowered_anew n f m l h =
    let xs : List Recorded = take (length m.other - (f - m.at)) m.other in
    record {
      at = ap (λ k. k - n) h.at;
      other = ap₂ (λ k ys. take (length ys - (n - k)) ys) h.at h.other;
      serial = h.serial;
      out = h.out;
      stays = h.stays;
      room = h.room;
    }

pub AllLowered-anew : (n f : ℕ) (ms ls : List MomentView) → AllLowered f ms ls → AllLowered n (each (lowered f) ms) (each (lowered n) ls)
AllLowered-anew n f [] [] h = tt
AllLowered-anew n f [] (l ∷ ls) h = absurd h
AllLowered-anew n f (m ∷ ms) [] h = absurd h
AllLowered-anew n f (m ∷ ms) (l ∷ ls) h = (lowered_anew n f m l h.0, AllLowered-anew n f ms ls h.1)

pub AllLowered-take : (n k : ℕ) (ms ls : List MomentView) → AllLowered n ms ls → AllLowered n (take k ms) (take k ls)
AllLowered-take n zero ms ls h = tt
AllLowered-take n (suc k) [] [] h = tt
AllLowered-take n (suc k) [] (l ∷ ls) h = absurd h
AllLowered-take n (suc k) (m ∷ ms) [] h = absurd h
AllLowered-take n (suc k) (m ∷ ms) (l ∷ ls) h = (h.0, AllLowered-take n k ms ls h.1)

pub AllLowered-drop : (n k : ℕ) (ms ls : List MomentView) → AllLowered n ms ls → AllLowered n (drop k ms) (drop k ls)
AllLowered-drop n zero ms ls h = h
AllLowered-drop n (suc k) [] [] h = tt
AllLowered-drop n (suc k) [] (l ∷ ls) h = absurd h
AllLowered-drop n (suc k) (m ∷ ms) [] h = absurd h
AllLowered-drop n (suc k) (m ∷ ms) (l ∷ ls) h = AllLowered-drop n k ms ls h.1

-- ---- the exchange of a moment that is lowered is that of how it shows
module _ (n : ℕ) (m l : MomentView) (h : IsLowered n m l) where
  same : SameExchange l (lowered n m)
  same = record { at = h.at; stays = h.stays; other = h.other; room = h.room }

  pub swapped-settled : (base : State) (rs : List Recorded) → swapped base rs l ≡ swapped base rs (lowered n m)
  swapped-settled base rs = swapped-same l (lowered n m) same base rs

  pub CanSwap-settled : (ready : Ready) (base : State) (rs : List Recorded) (room : ℕ) → CanSwap ready base rs room (lowered n m) → CanSwap ready base rs room l
  CanSwap-settled ready base rs room k = CanSwap-same l (lowered n m) same base rs ready room k

  pub Exchanged-settled : (base : State) (rs : List Recorded) (x : MomentView) → Exchanged base rs l x → Exchanged base rs (lowered n m) x
  Exchanged-settled base rs x e = record {
    at_same = e.at_same ∙ h.at;
    serial_same = e.serial_same ∙ h.serial;
    out_same = e.out_same ∙ h.out;
    stays_same = e.stays_same ∙ h.stays;
    other = e.other ∙ (λ i. reverse (laid (state_after base (entries (take (h.at i) rs))) (between (h.at i) (h.stays i) rs)));
    room_back = omega (arith, e.room_back, ap (λ (xs : List Recorded). length xs) h.other);
  }

  pub calls-settled : (rs : List Recorded) → calls_to_swap rs l ≡ calls_to_swap rs (lowered n m)
  calls-settled rs = λ i. calls_by (h.out i) ((length rs - (h.at i + h.stays i)) + length (h.other i))

-- ---- a position that counts those that are gone
pub lowered-at : (n k : ℕ) (m : MomentView) → m.at ≡ n + k → (lowered n m).at ≡ k
lowered-at n k m e = omega (arith, e)

pub lowered-other : (n k : ℕ) (m : MomentView) → m.at ≡ n + k → (lowered n m).other ≡ m.other
lowered-other n k m e = take_all (length m.other - (n - m.at)) m.other (omega (arith, e))
