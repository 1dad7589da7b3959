use Rattle.std.proofs.Common.{◌≡◌, ◌++◌, map}
use Rattle.std.specs.VecDeque.Iter.{deque_iter_rest}
use Rattle.journal_model.specs.Listed.{row_of}
use Rattle.journal_record.specs.Records.{entries}
use Rattle.journal_record.proofs.rows.change_rows.Given as goal

abbrev pub invariant-loop-record : goal.invariant-loop-record
invariant-loop-record l = record {
  can : (goal.iterator-loop-record).can_next l.record-iterator;
  finite : (goal.iterator-loop-record).is_finite l.record-iterator;
  rows : l.rows.items ++ map row_of (entries (deque_iter_rest l.record-iterator)) ≡ map row_of (entries l.records.items);
}
