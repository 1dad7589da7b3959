use Rattle.std.proofs.Common.{drop}
use Rattle.std.specs.List.{flat_map}
use Rattle.console_text.specs.Text.{next_id_text}
use Rattle.console_text.proofs.Writing.{Written}
use Rattle.console_text.proofs.prog_text.put_next_ids.Given as goal

abbrev pub invariant-loop-id : goal.invariant-loop-id
invariant-loop-id g l = Written (g.W.Output.contents l.initial.out) (g.W.Output.contents l.out) (flat_map next_id_text l.ids) (flat_map next_id_text (drop l.id-index l.ids))
