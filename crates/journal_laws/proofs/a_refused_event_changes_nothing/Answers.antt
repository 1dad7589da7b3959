use Rattle.journal_laws.proofs.Refusing.{changes_nothing}
use Rattle.journal_laws.proofs.a_refused_event_changes_nothing.Goals as goal

pub returns : goal.returns
returns c = changes_nothing
