use Rattle.std.proofs.Common.{◌≡◌, ◌+◌, ◌-◌, ◌≤◌, ◌++◌, take, drop, reverse, vec_len, vec_capacity, deque_len, deque_capacity}
use Rattle.journal_record.specs.Records.{laid, foot, Leads}
use Rattle.host_state.proofs.CallLemmas.{CallsLeft}
use Rattle.journal_record.proofs.turning.lay_down.Given as goal

abbrev pub invariant-loop-records : goal.invariant-loop-records
invariant-loop-records g l = record {
  within : l.at ≤ deque_len l.records;
  leads : Leads l.world.ready (foot l.world.state (drop l.at l.records.items)) l.world.state (drop l.at l.records.items);
  foot_same : foot l.initial.world.state (drop l.at l.initial.records.items) ≡ foot l.world.state (drop l.at l.records.items);
  ready : l.world.ready ≡ l.initial.world.ready;
  front : take l.at l.records.items ≡ take l.at l.initial.records.items;
  moved : l.initial.into.items ++ reverse (laid (foot l.initial.world.state (drop l.at l.initial.records.items)) (drop l.at l.initial.records.items)) ≡ l.into.items ++ reverse (laid (foot l.world.state (drop l.at l.records.items)) (drop l.at l.records.items));
  room : vec_len l.into + (deque_len l.records - l.at) ≤ vec_capacity l.into;
  kept : deque_capacity l.records ≡ deque_capacity l.initial.records;
  into_kept : vec_capacity l.initial.into ≤ vec_capacity l.into;
  work : CallsLeft (deque_len l.initial.records - l.at) (deque_len l.records - l.at) l.initial.world.work l.world.work;
}

abbrev pub decreases-loop-records : goal.decreases-loop-records
decreases-loop-records g l = deque_len l.records
