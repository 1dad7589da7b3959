-- The exchange of a change, which has at most one record.
use Rattle.std.proofs.Common.{◌≡◌, ℕ, ◌+◌, ◌≤◌, List, [], ◌∷◌, ◌++◌, take, drop, reverse, Option, Some, None, refl, sym, ◌∙◌, ap, subst, arith}
use Rattle.std.proofs.lemmas.List.{append-nil, take_all, drop_all}
use Rattle.host_state.specs.State.{State}
use Rattle.host_state.specs.World.{Ready}
use Rattle.journal_record.specs.After.{state_after}
use Rattle.journal_record.specs.Recorded.{Recorded}
use Rattle.journal_moments.specs.Line.{entries, laid, stood, foot, Leads, swapped, CanSwap, Exchanged}
use Rattle.journal_moments.specs.MomentView.{MomentView, others, change_view}
use Rattle.journal_moments.proofs.CutLemmas.{between-all}
use Rattle.journal_record.proofs.LineLemmas.{foot_past_is, state_after-append, entries-append, entries-stood}
use Rattle.journal_moments.proofs.SwapLemmas.{swapped-alone}

-- ---- its record comes back
module _ (ready : Ready) (base w : State) (rs : List Recorded) (room : ℕ) (m : MomentView) (serial at : ℕ) (r : Recorded) (is : m ≡ change_view serial at (Some r)) (h : Leads ready base w rs) (k : CanSwap ready base rs room m) where
  can_up : CanSwap ready base rs room (change_view serial at (Some r))
  can_up = subst (CanSwap ready base rs room) is k

  all_below : take at rs ≡ rs
  all_below = take_all at rs (omega (arith, can_up.room_back))

  here : state_after base (entries (take at rs)) ≡ w
  here = ap (λ xs. state_after base (entries xs)) all_below ∙ sym h.top

  pub up_records : rs ++ stood w (r ∷ []) ≡ swapped base rs m
  up_records =
      sym (ap (swapped base rs) is
      ∙ swapped-alone base rs (change_view serial at (Some r)) refl
      ∙ ap (λ xs. xs ++ stood (state_after base (entries xs)) (r ∷ [])) all_below
      ∙ ap (λ v. rs ++ stood v (r ∷ [])) (sym h.top))

  pub up_state : state_after w (entries (r ∷ [])) ≡ state_after base (entries (swapped base rs m))
  up_state =
      sym (ap (λ xs. state_after base (entries xs)) (sym up_records)
      ∙ ap (state_after base) (entries-append rs (stood w (r ∷ [])))
      ∙ state_after-append base (entries rs) (entries (stood w (r ∷ [])))
      ∙ (λ i. state_after (sym h.top i) (entries-stood w (r ∷ []) i)))

  pub up_moment : (n : MomentView) → n ≡ change_view serial at None → Exchanged base rs m n
  up_moment n e = subst (λ x. Exchanged base rs x n) (sym is) (subst (Exchanged base rs (change_view serial at (Some r))) (sym e) (record {
    at_same = refl;
    serial_same = refl;
    out_same = refl;
    stays_same = refl;
    other = sym (ap (λ xs. reverse (laid (state_after base (entries (take at rs))) xs)) (between-all at 0 rs refl ∙ drop_all at rs (omega (arith, can_up.room_back))));
    room_back = omega arith;
  }))

-- ---- its record is turned back
module _ (ready : Ready) (base w : State) (rs : List Recorded) (room : ℕ) (m : MomentView) (serial at : ℕ) (is : m ≡ change_view serial at None) (h : Leads ready base w rs) (k : CanSwap ready base rs room m) where
  can_down : CanSwap ready base rs room (change_view serial at None)
  can_down = subst (CanSwap ready base rs room) is k

  pub down_records : take at rs ≡ swapped base rs m
  down_records = sym (ap (swapped base rs) is ∙ swapped-alone base rs (change_view serial at None) refl ∙ append-nil (take at rs))

  pub down_state : foot w (drop at rs) ≡ state_after base (entries (swapped base rs m))
  down_state = foot_past_is ready base w rs at h ∙ ap (λ xs. state_after base (entries xs)) down_records

  pub down_moment : (n : MomentView) (undone : Option Recorded) → n ≡ change_view serial at undone → others undone ≡ reverse (laid (foot w (drop at rs)) (drop at rs)) → Exchanged base rs m n
  down_moment n undone e o = subst (λ x. Exchanged base rs x n) (sym is) (subst (Exchanged base rs (change_view serial at None)) (sym e) (record {
    at_same = refl;
    serial_same = refl;
    out_same = refl;
    stays_same = refl;
    other = o ∙ ap (λ v. reverse (laid v (drop at rs))) (foot_past_is ready base w rs at h) ∙ ap (λ xs. reverse (laid (state_after base (entries (take at rs))) xs)) (sym (between-all at 0 rs refl));
    room_back = omega arith;
  }))
