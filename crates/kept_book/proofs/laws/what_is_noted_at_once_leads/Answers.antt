use Rattle.kept_book.proofs.GrownLemmas.{changes_lead}
use Rattle.kept_book.proofs.laws.what_is_noted_at_once_leads.Goals as goal

pub returns : goal.returns
returns c = changes_lead
