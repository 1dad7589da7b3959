use Rattle.host_state.specs.Hosts.{entries_in}
use Rattle.std.proofs.Common.{is_some, sym, ap, ◌∙◌}
use Rattle.host_state.proofs.Asked.{attr_of}
use Rattle.bt_changes.proofs.AskLemmas.{none_of, attr_is, attr_none}
use Rattle.host_state.proofs.HostLemmas.{nothing_live, live_there}
use Rattle.bt_changes.proofs.question.attr_if_live.Goals as goal

pub returns-then-is_none : goal.returns-then-is_none
returns-then-is_none g c =
    let none = sym c.frozen_if_live.ensures ∙ none_of c.frozen_if_live.result c.if-is_none.ensures in
    sym (ap attr_of (nothing_live c.args.objects.now.by_id (entries_in c.args.entries.now) c.args.id none))

pub returns-in-Some : goal.returns-in-Some
returns-in-Some g c =
    let l = live_there c.args.objects.now.by_id (entries_in c.args.entries.now) c.args.id c.requires (ap is_some (sym c.frozen_if_live.ensures) ∙ c.if-is_none.ensures) in
    attr_is c.args.objects.now.by_id (entries_in c.args.entries.now) c.args.id c.in-Some.make l (sym c.in-Some.is ∙ c.make_at.ensures)

pub returns-in-None : goal.returns-in-None
returns-in-None g c =
    let l = live_there c.args.objects.now.by_id (entries_in c.args.entries.now) c.args.id c.requires (ap is_some (sym c.frozen_if_live.ensures) ∙ c.if-is_none.ensures) in
    attr_none c.args.objects.now.by_id (entries_in c.args.entries.now) c.args.id l (sym c.in-None.is ∙ c.make_at.ensures)
