use Rattle.std.proofs.Common.{◌∙◌, subst, Contains}
use Rattle.std.proofs.lemmas.List.Elements.{Contains-append_left, Contains-append_right}
use Rattle.host_state.specs.Hosts.{state_of, entries_in}
use Rattle.host_retirement.proofs.CutLemmas.{none_lost, none_retires}
use Rattle.host_retirement.proofs.retire.retire_cut.Goals as goal

-- among the links of the programs
pub returns-then-branch-clause-retired : goal.returns-then-branch-clause-retired
returns-then-branch-clause-retired g c =
    let boxes = c.args.objects.now.by_id in
    let entries = entries_in c.args.entries.now in
    let s = state_of boxes entries c.args.roots.now in
    none_retires boxes entries c.args.roots.now c.none_retired.result
    (none_lost s c.deref.result.now (λ l there. Contains-append_left _ _ l (subst (λ links. Contains links l) (c.deref.ensures.value ∙ c.in_ok-links.ensures) there))
    c.args.cut c.requires.cut (c.in_ok-is_held.ensures.0 c.if-branch.true))
    c.none_retired.ensures.targets c.none_retired.ensures.live

-- among those of the maps
pub returns-then-branch-2-clause-retired : goal.returns-then-branch-2-clause-retired
returns-then-branch-2-clause-retired g c =
    let boxes = c.args.objects.now.by_id in
    let entries = entries_in c.args.entries.now in
    let s = state_of boxes entries c.args.roots.now in
    none_retires boxes entries c.args.roots.now c.none_retired-then-branch-2.result
    (none_lost s c.deref-2.result.now (λ l there. Contains-append_right _ _ l (subst (λ links. Contains links l) (c.deref-2.ensures.value ∙ c.in_ok-maps.ensures.links) there))
    c.args.cut c.requires.cut (c.in_ok-is_held-2.ensures.0 c.if-branch-2.true))
    c.none_retired-then-branch-2.ensures.targets c.none_retired-then-branch-2.ensures.live
