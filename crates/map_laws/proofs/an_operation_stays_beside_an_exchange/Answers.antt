use Rattle.map_laws.proofs.Beside.{stays_beside}
use Rattle.map_laws.proofs.an_operation_stays_beside_an_exchange.Goals as goal

pub returns : goal.returns
returns c = stays_beside
