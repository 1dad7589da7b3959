use Rattle.bt_changes.specs.Named.{progs_of_name}
use Rattle.bt_changes.proofs.ShownLemmas.{prog_rows_in}
use Rattle.bt_changes.proofs.NamedLemmas.{HasFound}
use Rattle.bt_changes.proofs.named.prog_of_name.Given as goal

abbrev pub invariant-loop-id : goal.invariant-loop-id
invariant-loop-id l = HasFound l.found (progs_of_name l.name (prog_rows_in l.id-iterator)) (progs_of_name l.name (prog_rows_in l.entries.progs.entries))
