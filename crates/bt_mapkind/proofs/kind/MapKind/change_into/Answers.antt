use Rattle.std.proofs.Common.{ap}
use Rattle.bt_mapkind.specs.Kept.{Kept}
use Rattle.bt_mapkind.proofs.OfKinds.{kept_done, room_suffices}
use Rattle.bt_mapkind.proofs.kind.MapKind.change_into.Goals as goal

pub fill-requires : goal.fill-requires
fill-requires g c = room_suffices _ _ _ _ _ _ c.in-Ok.ensures c.requires

pub returns-in-Ok-clause-change : goal.returns-in-Ok-clause-change
returns-in-Ok-clause-change g c = kept_done _ _ _ _ _ _ c.in-Ok.ensures (ap (λ (k : Kept). k.back) c.fill.ensures)
