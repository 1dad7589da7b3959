-- If an object that was let go is held still, all that is live is reachable, and nothing retires.
use Rattle.std.proofs.Common.{◌≡◌, Bool, true, false, ◌&&◌, not, IsTrue, [], Option, Some, None, cond, inl, inr, refl, sym, ap, subst, Contains}
use Rattle.std.specs.Prelude.{◌⊎◌}
use Rattle.bt_mapkind.specs.Seen.{Seen}
use Rattle.bt_objects.specs.Boxes.{ById}
use Rattle.bt_roots.specs.declared.target.Target.{Target}
use Rattle.bt_roots.specs.declared.target.Target.TheVariants.{Map, Prog}
use Rattle.bt_roots.specs.Reachable.{Links, IsReachable, IsRoot, start, link}
use Rattle.bt_roots.specs.View.{RootsView}
use Rattle.bt_roots.proofs.LiveLemmas.{live_is}
use Rattle.host_state.specs.State.{State}
use Rattle.host_state.specs.Settled.{links_of, is_reached, is_live_in, is_listed, ListsRetired}
use Rattle.host_state.proofs.ByIdLemmas.{same_some}
use Rattle.host_state.specs.Hosts.{Entries, entry_at, prog_at, held_as, state_of}
use Rattle.host_state.specs.declared.retirement.Retirement.{Retirement}
use Rattle.host_state.proofs.RetireLemmas.{none_ascend}
use Rattle.host_retirement.specs.Cut.{HangsOn, IsHeld}
use Rattle.host_retirement.specs.Gathered.{IsRetired}

-- what an object that is reachable leads to is reachable without it as a start
without_start : (IsStart : Target → Type 0) (links : Links) (cut : Target) → IsReachable IsStart links cut
    → (t : Target) → IsReachable (λ x. IsStart x ⊎ (Some cut ≡ Some x)) links t → IsReachable IsStart links t
without_start IsStart links cut held t (start _ (inl is)) = start t is
without_start IsStart links cut held t (start _ (inr same)) = subst (IsReachable IsStart links) (same_some same) held
without_start IsStart links cut held t (link from _ r there) = link from t (without_start IsStart links cut held from r) there

without_none : (IsStart : Target → Type 0) (links : Links) (t : Target) → IsReachable (λ x. IsStart x ⊎ (None ≡ Some x)) links t → IsReachable IsStart links t
without_none IsStart links t (start _ (inl is)) = start t is
without_none IsStart links t (start _ (inr none)) = cc
without_none IsStart links t (link from _ r there) = link from t (without_none IsStart links from r) there

module _ (s : State) (links : Links) (among : (l : Target × Target) → Contains links l → Contains (links_of s) l) where
  held_reachable : (cut : Target) → IsHeld s.pins s.devices links (Some cut) → IsReachable (IsRoot s.pins s.devices) (links_of s) cut
  held_reachable cut (from, root, inl same) = start cut (subst (IsRoot s.pins s.devices) same root)
  held_reachable cut (from, root, inr there) = link from cut (start from root) (among (from, cut) there)

  all_reachable : (cut : Option Target) → HangsOn cut s → IsHeld s.pins s.devices links cut
      → (t : Target) → IsTrue (is_live_in s t) → IsReachable (IsRoot s.pins s.devices) (links_of s) t
  all_reachable None hangs held t live = without_none (IsRoot s.pins s.devices) (links_of s) t (hangs t live)
  all_reachable (Some cut) hangs held t live =
      without_start (IsRoot s.pins s.devices) (links_of s) cut (held_reachable cut held) t (hangs t live)

  pub none_lost : (cut : Option Target) → HangsOn cut s → IsHeld s.pins s.devices links cut → ListsRetired s []
  none_lost cut hangs held t =
      by (is_live_in s t) (is_reached s t) (λ live. (live_is s.pins s.devices (links_of s) t).1 (all_reachable cut hangs held t live))
    where
      by : (live reached : Bool) → (live ≡ true → reached ≡ true) → false ≡ live && not reached
      by true true h = refl
      by true false h = h refl
      by false reached h = refl

pub none_retires : (boxes : ById Seen) (entries : Entries) (roots : RootsView) (retired : Retirement) → ListsRetired (state_of boxes entries roots) [] → retired.targets ≡ [] → retired.live ≡ true
    → IsRetired boxes entries roots retired entries
none_retires boxes entries roots retired lists none live = record {
  lists = subst (ListsRetired (state_of boxes entries roots)) (sym none) lists;
  ascends = none_ascend retired.targets none;
  live = live;
  entries = record {
    maps = λ q. ap (λ ts. cond (is_listed ts (Map q)) (held_as (λ e. record e { live = false }) (entry_at entries q)) (entry_at entries q)) (sym none);
    progs = λ q. ap (λ ts. cond (is_listed ts (Prog q)) (held_as (λ p. record p { live = false }) (prog_at entries q)) (prog_at entries q)) (sym none);
  };
}
