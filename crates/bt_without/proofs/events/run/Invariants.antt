use Rattle.std.proofs.Common.{◌≡◌, ◌≤◌, length, vec_len, vec_capacity}
use Rattle.bt_without.specs.Events.{IsRun}
use Rattle.bt_without.proofs.events.run.Given as goal

abbrev pub invariant-loop-event : goal.invariant-loop-event
invariant-loop-event g l = record {
  ran : IsRun g.K.MapKind.seen l.fn.book.plain l.yielded l.answers.items l.book.plain;
  count : vec_len l.answers ≡ length l.yielded;
  room : length l.fn.events.items ≤ vec_capacity l.answers;
}
