use Rattle.test_books.proofs.ScarceLemmas.{answers_too}
use Rattle.test_books.proofs.scarce.ScarceMapKind.read.Goals as goal

pub returns : goal.returns
returns c = answers_too _ _ _ c.read.ensures
