use Rattle.std.proofs.Common.{◌≡◌}
use Rattle.std.specs.VecDeque.Iter.{deque_iter_rest}
use Rattle.journal_model.specs.Force.{is_in_force}
use Rattle.journal_record.specs.Records.{entries}
use Rattle.journal_record.proofs.turning.has_serial.Given as goal

abbrev pub invariant-loop-record : goal.invariant-loop-record
invariant-loop-record l = record {
  can : (goal.iterator-loop-record).can_next l.record-iterator;
  finite : (goal.iterator-loop-record).is_finite l.record-iterator;
  left : is_in_force l.serial (entries (deque_iter_rest l.record-iterator)) ≡ is_in_force l.serial (entries l.records.items);
}
