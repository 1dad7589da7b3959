use Rattle.std.proofs.Common.{◌++◌, refl, sym, subst, ap, ◌∙◌, false, List}
use Rattle.std.specs.List.{filter_map}
use Rattle.std.specs.Map.{keys_of}
use Rattle.bt_roots.specs.declared.target.Target.{Target}
use Rattle.bt_roots.specs.Reachable.{IsAscending}
use Rattle.host_state.specs.Hosts.{RevivesEntries, entries_in}
use Rattle.host_retirement.proofs.RetiredLemmas.{retires_map, retires_prog, lists_retired, all_ascend}
use Rattle.host_retirement.proofs.retire.retire_by.Goals as goal

pub returns-clause-retired : goal.returns-clause-retired
returns-clause-retired c = λ boxes built all. record {
  lists = lists_retired boxes (entries_in c.args.entries.now) c.args.roots.now c.args.links.now c.in_ok-live.live.items c.of.result
      built.same_ids all c.in_ok-live.ensures.live
      (c.of.ensures ∙ c.in_ok-add_retired_progs.ensures.list
      ∙ (λ i. (c.in_ok-targets.ensures.list ∙ ap (λ (ts : List Target). filter_map (retires_map (entries_in c.args.entries.now) ts) (keys_of (entries_in c.args.entries.now).maps)) c.deref.ensures.value) i
      ++ filter_map (retires_prog (entries_in c.args.entries.now) (c.deref-2.ensures.value i)) (keys_of (entries_in c.args.entries.now).progs)));
  ascends = subst IsAscending (sym (c.of.ensures ∙ c.in_ok-add_retired_progs.ensures.list
      ∙ (λ i. (c.in_ok-targets.ensures.list ∙ ap (λ (ts : List Target). filter_map (retires_map (entries_in c.args.entries.now) ts) (keys_of (entries_in c.args.entries.now).maps)) c.deref.ensures.value) i
      ++ filter_map (retires_prog (entries_in c.args.entries.now) (c.deref-2.ensures.value i)) (keys_of (entries_in c.args.entries.now).progs))))
      (all_ascend (entries_in c.args.entries.now) c.in_ok-live.live.items c.retired_maps.ensures.ordered c.add_retired_progs.ensures.ordered);
  live = refl;
  entries = subst (λ (ts : List Target). RevivesEntries (entries_in c.args.entries.now) (entries_in c.revive.new.entries) ts false) (c.deref-3.ensures.value ∙ sym c.of.ensures) c.revive.ensures;
}
