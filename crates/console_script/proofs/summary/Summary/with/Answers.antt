use Rattle.std.proofs.Common.{◌∙◌, ap}
use Rattle.console_script.specs.Tallies.{counted_told}
use Rattle.console_script.proofs.Told.{told_counts}
use Rattle.console_script.proofs.summary.Summary.with.Goals as goal

pub returns : goal.returns
returns c = c.with_told.ensures ∙ ap (counted_told c.args.self) c.of.ensures ∙ told_counts c.args.self c.args.answer.now
