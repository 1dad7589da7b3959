use Rattle.std.proofs.Common.{Some, true, is_some, sym, ap, subst, ◌∙◌}
use Rattle.std.specs.Option.{option_map_or}
use Rattle.host_state.specs.declared.entry.MapEntry.{MapEntry}
use Rattle.host_state.specs.declared.change.Change.TheVariants.{Freeze}
use Rattle.host_state.specs.declared.reply.Reply.TheVariants.{Done}
use Rattle.host_undoing.specs.declared.undoing.Part.TheVariants.{Frozen}
use Rattle.host_state.specs.Hosts.{held, view_of, entries_in}
use Rattle.host_undoing.proofs.Parts.{IsApplied}
use Rattle.host_state.proofs.HostLemmas.{live_there}
use Rattle.host_operations.proofs.FreezeLemmas.{frozen_is, freeze_done, freeze_sound, not_there, frozen_already}
use Rattle.host_operations.proofs.freeze.freeze.Goals as goal

pub returns-in-None-clause-answer : goal.returns-in-None-clause-answer
returns-in-None-clause-answer g c =
    not_there c.args.host.now.objects.by_id (entries_in c.args.host.now.entries) c.args.host.now.roots c.args.host.now.objects.work c.args.map (sym c.frozen_if_live.ensures ∙ c.in-None.is)

pub returns-in-Some-true-clause-answer : goal.returns-in-Some-true-clause-answer
returns-in-Some-true-clause-answer g c =
    let found = sym c.frozen_if_live.ensures ∙ c.in-Some-true.is in
    let l = live_there c.args.host.now.objects.by_id (entries_in c.args.host.now.entries) c.args.map (c.requires.built.same_ids c.args.map) (ap is_some found) in
    frozen_already c.args.host.now.objects.by_id (entries_in c.args.host.now.entries) c.args.host.now.roots c.args.host.now.objects.work c.args.map l (frozen_is _ _ _ l _ (found ∙ ap Some c.in-Some-true.field-0-test))

pub returns-in-Some-false-clause-sound : goal.returns-in-Some-false-clause-sound
returns-in-Some-false-clause-sound g c =
    let found = sym c.frozen_if_live.ensures ∙ c.in-Some-false.is in
    let l = live_there c.args.host.now.objects.by_id (entries_in c.args.host.now.entries) c.args.map (c.requires.built.same_ids c.args.map) (ap is_some found) in
    freeze_sound c.args.host.now.objects.by_id (entries_in c.args.host.now.entries) (entries_in c.exchange_frozen.new.entries) c.args.host.now.roots c.args.map c.requires l c.exchange_frozen.ensures.puts

pub returns-in-Some-false-clause-answer : goal.returns-in-Some-false-clause-answer
returns-in-Some-false-clause-answer g c =
    let found = sym c.frozen_if_live.ensures ∙ c.in-Some-false.is in
    let l = live_there c.args.host.now.objects.by_id (entries_in c.args.host.now.entries) c.args.map (c.requires.built.same_ids c.args.map) (ap is_some found) in
    let free = frozen_is _ _ _ l _ (found ∙ ap Some c.in-Some-false.field-0-test) in
    subst (λ frozen. IsApplied (view_of c.args.host.now.objects.by_id (entries_in c.args.host.now.entries) c.args.host.now.roots c.args.host.now.objects.work) (Freeze c.args.map) Done (record { part = Frozen c.args.map frozen; retired = c.none_retired.result })
    (view_of c.args.host.now.objects.by_id (entries_in c.exchange_frozen.new.entries) c.args.host.now.roots c.args.host.now.objects.work))
    (sym (c.exchange_frozen.ensures.before ∙ ap (λ o. option_map_or (λ (e : MapEntry). e.frozen) (held o) true) l.entry_there ∙ free))
    (freeze_done c.args.host.now.objects.by_id (entries_in c.args.host.now.entries) (entries_in c.exchange_frozen.new.entries) c.args.host.now.roots c.args.host.now.objects.work c.args.map c.none_retired.result c.requires l free c.exchange_frozen.ensures.puts c.none_retired.ensures.targets c.none_retired.ensures.live)
