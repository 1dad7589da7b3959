use Rattle.kept_book.proofs.NotedLemmas.{notes_lead}
use Rattle.kept_book.proofs.laws.what_is_noted_of_a_run_leads.Goals as goal

pub returns : goal.returns
returns c = notes_lead
