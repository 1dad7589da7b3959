use Rattle.map_laws.proofs.Carried.{operation_apart}
use Rattle.map_laws.proofs.an_operation_answers_the_same_after_an_exchange_elsewhere.Goals as goal

pub returns : goal.returns
returns c = operation_apart
