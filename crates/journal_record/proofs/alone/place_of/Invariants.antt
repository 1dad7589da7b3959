use Rattle.std.proofs.Common.{◌≡◌, false, take}
use Rattle.journal_record.specs.Records.{entries}
use Rattle.journal_model.specs.Force.{is_in_force}
use Rattle.journal_record.proofs.alone.place_of.Given as goal

abbrev pub invariant-loop-index : goal.invariant-loop-index
invariant-loop-index l = is_in_force l.serial (entries (take l.index l.records.items)) ≡ false
