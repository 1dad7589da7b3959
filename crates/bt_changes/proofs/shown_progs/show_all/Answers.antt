use Rattle.std.proofs.Common.{◌∙◌, ap}
use Rattle.host_state.specs.Hosts.{entries_in}
use Rattle.host_state.specs.declared.ask.AskReply.TheVariants.{Progs as ProgsReply}
use Rattle.bt_changes.proofs.ShownLemmas.{all_progs_shown, prog_rows_left}
use Rattle.bt_changes.proofs.shown_progs.show_all.Goals as goal

pub returns : goal.returns
returns c =
    ap ProgsReply (
    c.of.ensures
    ∙ prog_rows_left c.loop-id.rows.items c.loop-id.id-iterator (entries_in c.args.entries.now).progs c.in-None.ensures.steps.0 c.loop-id.invariant
    ∙ all_progs_shown (entries_in c.args.entries.now) c.iter-id-items.ensures.ordered
    )
