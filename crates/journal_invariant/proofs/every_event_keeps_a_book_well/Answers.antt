use Rattle.journal_invariant.proofs.Events.{stays_well}
use Rattle.journal_invariant.proofs.every_event_keeps_a_book_well.Goals as goal

pub returns : goal.returns
returns c = stays_well
