use Rattle.std.proofs.Common.{◌∙◌, ap}
use Rattle.console_script.specs.Tallies.{tallied_told}
use Rattle.console_script.proofs.Told.{told_tallies}
use Rattle.console_script.proofs.tally.Tally.with.Goals as goal

pub returns : goal.returns
returns c = c.with_told.ensures ∙ ap (tallied_told c.args.self) c.of.ensures ∙ told_tallies c.args.self c.args.answer.now
