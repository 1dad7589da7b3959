use Rattle.std.proofs.Common.{false, ◌∙◌, ap}
use Rattle.journal_model.specs.Serve.{start_told}
use Rattle.bt_journal.proofs.book.Book.start.Goals as goal

pub returns-in-Ok-clause-plain : goal.returns-in-Ok-clause-plain
returns-in-Ok-clause-plain g c = (false, λ i. (c.ask.ensures.same i, (c.start_told.ensures ∙ ap start_told c.in-Ok.ensures.answer) i))
