use Rattle.map_laws.proofs.Room.{fits_after}
use Rattle.map_laws.proofs.an_exchange_fits_after_one_elsewhere.Goals as goal

pub returns : goal.returns
returns c = fits_after
