use Rattle.journal_laws.proofs.Asking.{book_answers_alike}
use Rattle.journal_laws.proofs.a_book_answers_alike_without_its_past.Goals as goal

pub returns : goal.returns
returns c = book_answers_alike
