use Rattle.std.proofs.Common.{◌≡◌, ◌+◌, ◌≤◌, ◌++◌, reverse, vec_len, vec_capacity, deque_len, deque_capacity}
use Rattle.journal_record.specs.After.{state_after}
use Rattle.journal_record.specs.Records.{entries, stood, AllLying}
use Rattle.host_state.proofs.CallLemmas.{CallsLeft}
use Rattle.journal_record.proofs.turning.stand_up.Given as goal

abbrev pub invariant-loop-record : goal.invariant-loop-record
invariant-loop-record g l = record {
  lying : AllLying l.world.ready l.world.state (reverse l.from.items);
  state : state_after l.initial.world.state (entries (reverse l.initial.from.items)) ≡ state_after l.world.state (entries (reverse l.from.items));
  ready : l.world.ready ≡ l.initial.world.ready;
  moved : l.initial.records.items ++ stood l.initial.world.state (reverse l.initial.from.items) ≡ l.records.items ++ stood l.world.state (reverse l.from.items);
  room : deque_len l.records + vec_len l.from ≤ deque_capacity l.records;
  kept : deque_capacity l.initial.records ≤ deque_capacity l.records;
  from_kept : vec_capacity l.from ≡ vec_capacity l.initial.from;
  work : CallsLeft (vec_len l.initial.from) (vec_len l.from) l.initial.world.work l.world.work;
}

abbrev pub decreases-loop-record : goal.decreases-loop-record
decreases-loop-record g l = vec_len l.from
