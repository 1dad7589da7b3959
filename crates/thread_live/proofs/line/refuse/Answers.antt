use Rattle.std.proofs.Common.{◌∙◌}
use Rattle.console_script.specs.Tallies.{tallied_told}
use Rattle.thread_live.proofs.line.refuse.Goals as goal

pub returns-in-Ok-clause-refuses : goal.returns-in-Ok-clause-refuses
returns-in-Ok-clause-refuses g c = record {
  wrote = c.in-Ok.ensures.wrote;
  counted = c.with_told.ensures ∙ (λ i. tallied_told (c.fresh.ensures i) (c.in-Ok.ensures.told i));
}
