use Rattle.std.proofs.Common.{◌≡◌, drop, deque_capacity}
use Rattle.journal_record.proofs.turning.drop_front.Given as goal

abbrev pub invariant-loop : goal.invariant-loop
invariant-loop g l = record {
  items : l.list.items ≡ drop l.counter l.initial.list.items;
  kept : deque_capacity l.list ≡ deque_capacity l.initial.list;
}
