use Rattle.bt_roots.proofs.ExchangeLemmas.{fits_later}
use Rattle.bt_roots.proofs.laws.room_is_for_good.Goals as goal

pub returns : goal.returns
returns c = fits_later
