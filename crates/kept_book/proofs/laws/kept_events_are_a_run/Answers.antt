use Rattle.kept_book.proofs.LeadLemmas.{leads_as_run}
use Rattle.kept_book.proofs.laws.kept_events_are_a_run.Goals as goal

pub returns : goal.returns
returns c = leads_as_run
