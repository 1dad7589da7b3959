use Rattle.std.proofs.Common.{◌∙◌, ap}
use Rattle.console_script.specs.declared.tally.Tally.{Tally}
use Rattle.console_script.specs.Tallies.{tallied_told}
use Rattle.thread_live.proofs.line.answer_single.Goals as goal

pub returns-in-Ok-clause-does : goal.returns-in-Ok-clause-does
returns-in-Ok-clause-does g c = (c.in-Ok.told, c.in-Ok.ensures.does, c.with_told.ensures ∙ ap (λ (t : Tally). tallied_told t c.in-Ok.told) c.fresh.ensures)
