use Rattle.std.proofs.Common.{◌≡◌, ℕ, List, IfOk, is_some, sym, ap, subst, ◌∙◌}
use Rattle.std.specs.FinMap as map
use Rattle.host_state.proofs.Asked.{fetched, slot_fetched}
use Rattle.host_state.specs.Hosts.{entries_in, live_prog_at}
use Rattle.host_retirement.specs.Gathered.{id_under}
use Rattle.bt_changes.proofs.AskLemmas.{none_of, fetched_so, fetched_none}
use Rattle.host_state.proofs.HostLemmas.{nothing_live, live_there}
use Rattle.bt_changes.proofs.running.fetch.Goals as goal

pub returns-then-is_none-clause-answer : goal.returns-then-is_none-clause-answer
returns-then-is_none-clause-answer g c =
    let none = sym c.frozen_if_live.ensures ∙ none_of c.frozen_if_live.result c.if-is_none.ensures in
    sym (ap (λ o. fetched (live_prog_at (entries_in c.args.entries.now)) o c.args.index) (nothing_live c.args.objects.now.by_id (entries_in c.args.entries.now) c.args.map none))

pub returns-in-Some-clause-answer : goal.returns-in-Some-clause-answer
returns-in-Some-clause-answer g c =
    let l = live_there c.args.objects.now.by_id (entries_in c.args.entries.now) c.args.map c.requires (ap is_some (sym c.frozen_if_live.ensures) ∙ c.if-is_none.ensures) in
    subst (λ a. IfOk c.fetch_slot.result (λ reply. reply ≡ a))
    (ap (λ (key : List ℕ). slot_fetched (live_prog_at (entries_in c.args.entries.now)) c.in-Some.make.attr.kind (id_under (map.get c.args.objects.now.by_id c.args.map) key)) c.key_of_index-key.ensures
    ∙ fetched_so c.args.objects.now.by_id (entries_in c.args.entries.now) c.args.map c.args.index (live_prog_at (entries_in c.args.entries.now)) c.in-Some.make l (sym c.in-Some.is ∙ c.make_at.ensures))
    c.fetch_slot.ensures.answer

pub returns-in-None-clause-answer : goal.returns-in-None-clause-answer
returns-in-None-clause-answer g c =
    let l = live_there c.args.objects.now.by_id (entries_in c.args.entries.now) c.args.map c.requires (ap is_some (sym c.frozen_if_live.ensures) ∙ c.if-is_none.ensures) in
    fetched_none c.args.objects.now.by_id (entries_in c.args.entries.now) c.args.map c.args.index (live_prog_at (entries_in c.args.entries.now)) l (sym c.in-None.is ∙ c.make_at.ensures)
