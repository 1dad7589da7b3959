use Rattle.std.proofs.Common.{◌∙◌, subst}
use Rattle.std.proofs.IntoIterSteps.{All-taken}
use Rattle.kept_log.specs.Timed.{entries_of}
use Rattle.kept_log.specs.Logged.{AreLogged}
use Rattle.kept_log.proofs.LogLemmas.{one_logged}
use Rattle.kept_log.proofs.rows.rows_of.Goals as goal

pub loop-it-preserved : goal.loop-it-preserved
loop-it-preserved c = one_logged c.loop-it.yielded c.loop-it.rows.items c.push.new.list.items c.in-Some.it c.row_of.result c.loop-it.invariant c.row_of.ensures c.in_ok-push.ensures

pub returns-clause-logged : goal.returns-clause-logged
returns-clause-logged c =
    let from = c.into_iter-it-iterator in
    let all = All-taken from.result c.loop-it.yielded (c.next.new.self, (c.loop-it.it-iterator, c.loop-it.yielded_by, c.in-None.ensures.steps)) ∙ from.ensures.into_iter_gives.0 in
    subst (λ es. AreLogged (entries_of es) c.loop-it.rows.items) all c.loop-it.invariant
