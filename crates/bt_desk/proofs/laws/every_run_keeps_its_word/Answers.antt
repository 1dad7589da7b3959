use Rattle.bt_desk.proofs.Promised.{run_keeps_its_word}
use Rattle.bt_desk.proofs.laws.every_run_keeps_its_word.Goals as goal

pub returns : goal.returns
returns g c = run_keeps_its_word g.K.MapKind.seen
