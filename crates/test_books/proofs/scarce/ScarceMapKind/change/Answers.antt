use Rattle.std.proofs.Common.{refl}
use Rattle.test_books.proofs.ScarceLemmas.{changes_too}
use Rattle.test_books.proofs.scarce.ScarceMapKind.change.Goals as goal

pub returns-then-left-eq1 : goal.returns-then-left-eq1
returns-then-left-eq1 c = record { told = tt; room = λ t. cc; same = refl }

pub returns : goal.returns
returns c = changes_too _ _ _ _ c.change.ensures
