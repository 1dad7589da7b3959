use Rattle.std.proofs.Common.{subst}
use Rattle.kept_file.specs.Faults.{IsOpened}
use Rattle.kept_file.proofs.KeptLemmas.{on_ok}
use Rattle.kept_file.proofs.opening.with_terms.Goals as goal

pub returns-in-Ok-clause-opened : goal.returns-in-Ok-clause-opened
returns-in-Ok-clause-opened g c clean events was = subst (λ es. IsOpened c.args.terms es c.opened.result) (c.in-Ok.ensures.events clean c.args.terms events was) c.opened.ensures

pub returns-in-Ok-clause-same : goal.returns-in-Ok-clause-same
returns-in-Ok-clause-same g c clean events was = on_ok c.opened.result (c.in-Ok.ensures.reads.same clean c.args.terms events was)

pub returns-in-Ok-clause-times : goal.returns-in-Ok-clause-times
returns-in-Ok-clause-times g c clean es was = on_ok c.opened.result (c.in-Ok.ensures.reads.stays clean c.args.terms es was)

pub returns-in-Err-clause-opened : goal.returns-in-Err-clause-opened
returns-in-Err-clause-opened g c clean events was = c.in-Err.ensures.reads.fit clean c.args.terms events was
