use Rattle.kept_book.proofs.NotedLemmas.{noted_leads}
use Rattle.kept_book.proofs.laws.what_is_noted_leads.Goals as goal

pub returns : goal.returns
returns c = noted_leads
