use Rattle.host_state.specs.Hosts.{entries_in}
use Rattle.std.proofs.Common.{◌∙◌, ap}
use Rattle.host_state.specs.declared.ask.AskReply.TheVariants.{Maps as MapsReply}
use Rattle.bt_changes.proofs.ShownLemmas.{all_shown, rows_left}
use Rattle.bt_changes.proofs.question.show_all.Goals as goal

pub returns : goal.returns
returns g c =
    ap MapsReply (
    c.of.ensures
    ∙ rows_left c.args.objects.now.by_id c.loop-id.rows.items c.loop-id.id-iterator (entries_in c.args.entries.now).maps c.in-None.ensures.steps.0 c.loop-id.invariant
    ∙ all_shown c.args.objects.now.by_id (entries_in c.args.entries.now) c.iter-id-items.ensures.ordered
    )
