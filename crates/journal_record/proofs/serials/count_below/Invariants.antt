use Rattle.std.proofs.Common.{◌<◌, ◌≤◌, ◌-◌, take, drop, deque_len}
use Rattle.journal_model.specs.Replay.{Entry}
use Rattle.journal_model.specs.Well.{Each}
use Rattle.journal_record.specs.Records.{entries}
use Rattle.journal_record.proofs.serials.count_below.Given as goal

abbrev pub invariant-search : goal.invariant-search
invariant-search l = record {
  ordered : l.low ≤ l.high;
  within : l.high ≤ deque_len l.records;
  below : Each (λ (e : Entry). e.serial < l.serial) (take l.low (entries l.records.items));
  others : Each (λ (e : Entry). l.serial ≤ e.serial) (drop l.high (entries l.records.items));
}

abbrev pub decreases-search : goal.decreases-search
decreases-search l = l.high - l.low
