use Rattle.std.proofs.Common.{refl}
use Rattle.bpfcon.proofs.book.with_named.Goals as goal

pub returns-clause-ran : goal.returns-clause-ran
returns-clause-ran g c = (refl, rw c.as_slice.ensures.value at c.in_ok-files.ensures)
