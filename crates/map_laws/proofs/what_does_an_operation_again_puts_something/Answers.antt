use Rattle.map_laws.proofs.Again.{puts_again}
use Rattle.map_laws.proofs.what_does_an_operation_again_puts_something.Goals as goal

pub returns : goal.returns
returns c = puts_again
