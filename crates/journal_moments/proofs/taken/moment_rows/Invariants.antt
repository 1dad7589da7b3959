use Rattle.std.proofs.Common.{◌≡◌, ◌++◌, map}
use Rattle.std.specs.VecDeque.Iter.{deque_iter_rest}
use Rattle.journal_moments.proofs.taken.moment_rows.Given as goal

abbrev pub invariant-loop-moment : goal.invariant-loop-moment
invariant-loop-moment l = record {
  can : (goal.iterator-loop-moment).can_next l.moment-iterator;
  finite : (goal.iterator-loop-moment).is_finite l.moment-iterator;
  rows : l.rows.items ++ map (λ m. (m.serial, m.out)) (deque_iter_rest l.moment-iterator) ≡ map (λ m. (m.serial, m.out)) l.moments.items;
}
