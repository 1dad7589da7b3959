-- The state after a number of moments: what has retired in it, and which of the later moments took out a change from before.
use Rattle.std.proofs.Common.{◌≡◌, ◌↔◌, ℕ, zero, suc, ◌-◌, ◌≤◌, ◌||◌, true, List, [], ◌∷◌, ◌++◌, length, take, drop, refl, sym, ◌∙◌, ap, subst}
use Rattle.std.proofs.lemmas.List.{take-append-drop}
use Rattle.bt_roots.specs.declared.target.Target.{Target}
use Rattle.host_state.specs.State.{State}
use Rattle.journal_model.specs.Replay.{Entry}
use Rattle.journal_model.specs.Plain.{Past, Pasts, now, newest_state, newest_force, cut}
use Rattle.journal_model.specs.Well.{Each}
use Rattle.journal_record.specs.After.{state_after}
use Rattle.journal_moments.specs.Recorded.{Recorded}
use Rattle.journal_moments.specs.Line.{entries, AllStanding, other_force, pasts_down}
use Rattle.journal_moments.specs.Held.{Held, base_of, pasts_of, Sound}
use Rattle.journal_moments.specs.MomentView.{MomentView}
use Rattle.journal_record.specs.Retired.{has_retired, is_retired_by, NoneRetired, StayIn, retire_none}
use Rattle.journal_record.proofs.NoneLemmas.{none_by, by_none}
use Rattle.journal_moments.proofs.AdvanceLemmas.{Begins, first_records}
use Rattle.journal_moments.proofs.HeldLemmas.{pasts_is}
use Rattle.journal_moments.proofs.LeftLemmas.{lasts_standing}
use Rattle.journal_record.proofs.LineLemmas.{AllStanding-front, AllStanding-rest, entries-append, state_after-append}
use Rattle.journal_moments.proofs.NewestLemmas.{now-pasts_of}
use Rattle.journal_record.proofs.RetiredByLemmas.{all_retired}
use Rattle.journal_model.proofs.Retiring.{Lasts, lasts_itself}

-- ---- a moment's state is what its list in force makes of the base
states_down : (base : State) (es : List Entry) (ms : List MomentView) → Each (λ (m : Past). m.state ≡ state_after base m.force) (pasts_down base es ms)
states_down base es [] = tt
states_down base es (m ∷ ms) = (refl, states_down base (other_force es m) ms)

Each-past : {X : Type 0} (P : X → Type 0) (k : ℕ) (xs : List X) → Each P xs → Each P (drop k xs)
Each-past P zero xs h = h
Each-past P (suc k) [] h = tt
Each-past P (suc k) (x ∷ xs) h = Each-past P k xs h.1

newest_after : (base : State) (ms : List Past) → Each (λ (m : Past). m.state ≡ state_after base m.force) ms → newest_state base ms ≡ state_after base (newest_force ms)
newest_after base [] h = refl
newest_after base (m ∷ ms) h = h.0

pub now_after : (a : Held) (count : ℕ) → now (cut count (pasts_of a)) ≡ state_after (base_of a) (newest_force (cut count (pasts_of a)).moments)
now_after a count =
    let P : Past → Type 0 = λ m. m.state ≡ state_after (base_of a) m.force in
    let k : ℕ = length (pasts_of a).moments - count in
    let all : Each P (pasts_of a).moments = subst (λ (q : Pasts). Each P q.moments) (sym (pasts_is a)) (states_down (base_of a) (entries a.records) _) in
    ap (λ (q : Pasts). newest_state q.base (drop k (pasts_of a).moments)) (pasts_is a) ∙ newest_after (base_of a) (drop k (pasts_of a).moments) (Each-past P k (pasts_of a).moments all)

-- ---- the records up to that state, and past it
module _ (a : Held) (s : Sound a) (count n : ℕ) (within : count ≤ length a.moments) (is : n ≡ length (newest_force (cut count (pasts_of a)).moments)) (begin : Begins a count) where
  abbrev first : List Recorded
  first = take n a.records

  abbrev rest : List Recorded
  rest = drop n a.records

  state_is : now (cut count (pasts_of a)) ≡ state_after (base_of a) (entries first)
  state_is = now_after a count ∙ ap (state_after (base_of a)) (first_records a s count n within is begin)

  whole : AllStanding a.world.ready (base_of a) (first ++ rest)
  whole = subst (AllStanding a.world.ready (base_of a)) (sym (take-append-drop n a.records)) s.leads.standing

  -- in the base nothing has retired, so these records retired what has
  pub retired_at : NoneRetired (base_of a) → (target : Target) → is_retired_by first target ≡ has_retired (now (cut count (pasts_of a))) target
  retired_at none target =
      sym (ap (λ v. has_retired v target) state_is
      ∙ all_retired a.world.ready (base_of a) first (AllStanding-front a.world.ready (base_of a) first rest whole) target
      ∙ ap (λ b. b || is_retired_by first target) (none target))

  pub none_at : NoneRetired (base_of a) → (retire_none first ≡ true) ↔ NoneRetired (now (cut count (pasts_of a)))
  none_at none = ((λ e target. sym (retired_at none target) ∙ none_by first e target), (λ h. by_none first (λ target. retired_at none target ∙ h target)))

  -- what is in the base is there then
  pub from_base : StayIn (base_of a) (now (cut count (pasts_of a)))
  from_base =
      let lasts : Lasts (base_of a) (state_after (base_of a) (entries first)) =
      lasts_standing a.world.ready (base_of a) (base_of a) first (AllStanding-front a.world.ready (base_of a) first rest whole) (lasts_itself (base_of a)) in
      let both : Lasts (base_of a) (now (cut count (pasts_of a))) = subst (Lasts (base_of a)) (sym state_is) lasts in
      record { maps = both.maps; progs = both.progs }

  pub stays : StayIn (now (cut count (pasts_of a))) (now (pasts_of a))
  stays =
      let t : State = state_after (base_of a) (entries first) in
      let lasts : Lasts t (state_after t (entries rest)) = lasts_standing a.world.ready t t rest (AllStanding-rest a.world.ready (base_of a) first rest whole) (lasts_itself t) in
      let top : state_after t (entries rest) ≡ now (pasts_of a) =
      sym (state_after-append (base_of a) (entries first) (entries rest))
      ∙ ap (state_after (base_of a)) (sym (entries-append first rest) ∙ ap entries (take-append-drop n a.records))
      ∙ sym s.leads.top
      ∙ sym (now-pasts_of a s) in
      let both : Lasts (now (cut count (pasts_of a))) (now (pasts_of a)) = subst (λ (x : State × State). Lasts x.0 x.1) (λ i. (sym state_is i, top i)) lasts in
      record { maps = both.maps; progs = both.progs }
