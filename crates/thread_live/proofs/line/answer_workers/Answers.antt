use Rattle.std.proofs.Common.{ap, ◌∙◌}
use Rattle.thread_live.specs.Standings.{heeded}
use Rattle.thread_live.proofs.line.answer_workers.Goals as goal

pub returns-in-Ok-clause-ordered : goal.returns-in-Ok-clause-ordered
returns-in-Ok-clause-ordered g c = record {
  it = c.in-Ok.it;
  session = c.heed.ensures.session;
  tells = c.in-Ok.ensures.tells;
  counted = c.heeded.ensures ∙ ap (λ summary. heeded summary c.in-Ok.it) c.heed.ensures.summary;
}
