use Rattle.std.proofs.Common.{◌≡◌, take, false}
use Rattle.std.specs.List.{list_any}
use Rattle.journal_record.specs.Retired.{retires_some}
use Rattle.journal_record.proofs.retired.retires_none.Given as goal

abbrev pub invariant-loop-index : goal.invariant-loop-index
invariant-loop-index l = record {
  none : list_any retires_some (take l.index l.records.items) ≡ false;
}
