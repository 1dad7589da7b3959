use Rattle.bt_changes.specs.Named.{maps_of_name}
use Rattle.bt_changes.proofs.ShownLemmas.{rows_in}
use Rattle.bt_changes.proofs.NamedLemmas.{HasFound}
use Rattle.bt_changes.proofs.named.map_of_name.Given as goal

abbrev pub invariant-loop-id : goal.invariant-loop-id
invariant-loop-id g l = HasFound l.found (maps_of_name l.name (rows_in l.objects.by_id l.id-iterator)) (maps_of_name l.name (rows_in l.objects.by_id l.entries.maps.entries))
