use Rattle.std.proofs.Common.{◌≡◌, drop}
use Rattle.journal_record.specs.Alone.{spares}
use Rattle.journal_record.proofs.alone.spares_from.Given as goal

abbrev pub invariant-loop-index : goal.invariant-loop-index
invariant-loop-index l = spares l.one (drop l.index l.records.items) ≡ spares l.one (drop l.from l.records.items)
