use Rattle.test_books.proofs.ScarceLemmas.{turns_too}
use Rattle.test_books.proofs.scarce.ScarceMapKind.turn.Goals as goal

pub returns : goal.returns
returns c = turns_too _ _ _ _ c.turn.ensures
