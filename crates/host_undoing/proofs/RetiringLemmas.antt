-- An undoing of a change that retires joins the states before and after it.
use Rattle.std.proofs.Common.{◌≡◌, List, [], sym, subst, Bool, true, false, ◌&&◌, not, IsTrue, Some, refl, ap, ◌∙◌}
use Rattle.bt_roots.specs.declared.target.Target.{Target}
use Rattle.bt_roots.specs.Reachable.{IsAscending}
use Rattle.host_state.specs.State.{State}
use Rattle.host_state.specs.Settled.{is_reached, settle, IsSettled, is_live_in, is_listed, revived, ListsRetired}
use Rattle.host_undoing.specs.declared.undoing.Part.{Part}
use Rattle.host_undoing.specs.declared.undoing.Undoing.{Undoing}
use Rattle.host_state.specs.declared.retirement.Retirement.{Retirement}
use Rattle.host_state.specs.World.{Ready}
use Rattle.host_undoing.specs.Exchange.{part_turned, part_back, turned, back_of, FitsPlace, Joins, concerned}
use Rattle.host_undoing.proofs.Parts.{LivesInOne, PartJoins}
use Rattle.host_undoing.specs.Answers.{Retires}
use Rattle.host_state.proofs.SettleLemmas.{settle_settled}
use Rattle.host_state.proofs.RetireLemmas.{first_lives, live_settled, no_longer, none_ascend, revived_none, revived_settled, revived_twice, settle_revives, settled_lists}

-- ---- an undoing that revives
-- an exchange of a part is not touched by what retires
pub record IsApart (ready : Ready) (s : State) (part : Part) (targets : List Target) : Type 0 where
  pub state : part_turned (revived s targets false) part ≡ revived (part_turned s part) targets false
  pub back : part_back (revived s targets false) part ≡ part_back s part
  pub place : FitsPlace ready (revived s targets false) part

module _ (ready : Ready) (before middle : State) (back forth : Part) (retired : Retirement) (joins : PartJoins ready before middle back forth) (lists : ListsRetired middle retired.targets)
    (live : retired.live ≡ true) (were : (t : Target) → IsTrue (is_listed retired.targets t) → IsTrue (is_live_in before t)) (apart : IsApart ready middle back retired.targets)
    (only : (t : Target) → IsTrue (is_reached middle t) → IsTrue (is_live_in middle t)) (settled : IsSettled before)
    (touched : (t : Target) → concerned back ≡ Some t → LivesInOne before (revived middle retired.targets false) t) where
  abbrev after : State
  after = revived middle retired.targets false

  abbrev undoing : Undoing
  undoing = record { part = back; retired = retired }

  abbrev redoing : Undoing
  redoing = record { part = forth; retired = record retired { live = false } }

  back_state : turned after undoing ≡ before
  unfolding turned
  back_state =
      (λ i. revived (apart.state i) retired.targets (live i))
      ∙ ap (λ x. revived (revived x retired.targets false) retired.targets true) joins.back_state
      ∙ revived_twice before retired.targets were

  back_face : back_of after undoing ≡ redoing
  unfolding back_of
  back_face = λ i. record { part = (apart.back ∙ joins.back_face) i; retired = record retired { live = not (live i) } }

  forth_state : turned before redoing ≡ after
  unfolding turned
  forth_state = ap (λ x. revived x retired.targets false) joins.forth_state

  forth_face : back_of before redoing ≡ undoing
  unfolding back_of
  forth_face = λ i. record { part = joins.forth_face i; retired = record retired { live = sym live i } }

  both : Joins ready before after undoing redoing
  both = record {
    back_fits = record { place = apart.place; settled = subst IsSettled (sym back_state) settled };
    back_state = back_state;
    back_face = back_face;
    forth_fits = record { place = joins.forth_place; settled = subst IsSettled (sym forth_state) (revived_settled middle retired.targets lists only) };
    forth_state = forth_state;
    forth_face = forth_face;
    touches = record { part = touched; retired = λ t listed. first_lives (is_live_in before t) (is_live_in after t) (were t listed) };
  }

  pub retiring_joins : Joins ready before (settle middle) (record { part = back; retired = retired }) (back_of (settle middle) (record { part = back; retired = retired }))
  retiring_joins =
      subst (λ s. Joins ready before s (record { part = back; retired = retired }) (back_of s (record { part = back; retired = retired }))) (sym (settle_revives middle retired.targets lists))
      (subst (Joins ready before after undoing) (sym back_face) both)

-- if nothing retires
pub nothing_apart : (ready : Ready) (s : State) (part : Part) (targets : List Target) → targets ≡ [] → FitsPlace ready s part → IsApart ready s part targets
nothing_apart ready s part targets none place = subst (IsApart ready s part) (sym none) (record {
  state = ap (λ x. part_turned x part) (revived_none s false) ∙ sym (revived_none (part_turned s part) false);
  back = ap (λ x. part_back x part) (revived_none s false);
  place = subst (λ x. FitsPlace ready x part) (sym (revived_none s false)) place;
})

pub plain_joins : (ready : Ready) (before after : State) (back forth : Part) (retired : Retirement) → PartJoins ready before after back forth → retired.targets ≡ [] → retired.live ≡ true
    → IsSettled before → IsSettled after → ((t : Target) → concerned back ≡ Some t → LivesInOne before after t)
    → Joins ready before after (record { part = back; retired = retired }) (back_of after (record { part = back; retired = retired }))
plain_joins ready before after back forth retired joins none live settled settled_after touched =
    subst (λ s. Joins ready before s (record { part = back; retired = retired }) (back_of s (record { part = back; retired = retired }))) (settle_settled after settled_after)
    (retiring_joins ready before after back forth retired joins (subst (ListsRetired after) (sym none) (settled_lists after settled_after)) live
    (λ t listed. cc (sym (ap (λ ts. is_listed ts t) none) ∙ listed)) (nothing_apart ready after back retired.targets none joins.back_place) settled_after.only settled
    (λ t e. subst (λ ts. LivesInOne before (revived after ts false) t) (sym none) (subst (λ s. LivesInOne before s t) (sym (revived_none after false)) (touched t e))))

-- ---- what has retired
-- what settles retires just what is listed
pub settled_retires : (before middle : State) (retired : Retirement) → ListsRetired middle retired.targets → IsAscending retired.targets → retired.live ≡ true → ((t : Target) → is_live_in middle t ≡ is_live_in before t)
    → Retires before (settle middle) retired
settled_retires before middle retired lists ascends live same = record {
  lists = λ t.
      lists t
      ∙ no_longer (is_live_in middle t) (is_reached middle t)
      ∙ ap (λ b. is_live_in middle t && not b) (sym (live_settled middle t))
      ∙ ap (λ b. b && not (is_live_in (settle middle) t)) (same t);
  ascends = ascends;
  live = live;
}

-- if all that was live is live nothing retires
pub nothing_retires : (before after : State) (retired : Retirement) → retired.targets ≡ [] → retired.live ≡ true → ((t : Target) → IsTrue (is_live_in before t) → IsTrue (is_live_in after t))
    → Retires before after retired
nothing_retires before after retired none live still = record {
  lists = λ t. ap (λ ts. is_listed ts t) none ∙ by (is_live_in before t) (is_live_in after t) (still t);
  ascends = none_ascend retired.targets none;
  live = live;
}
  where
    by : (was is : Bool) → (was ≡ true → is ≡ true) → false ≡ was && not is
    by true is h = sym (ap not (h refl))
    by false is h = refl
