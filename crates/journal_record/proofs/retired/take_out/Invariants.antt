use Rattle.std.proofs.Common.{◌≡◌, ◌==◌, not, filter, vec_len}
use Rattle.journal_record.specs.Listed.{Rises}
use Rattle.journal_record.proofs.retired.take_out.Given as goal

abbrev pub invariant-loop-place : goal.invariant-loop-place
invariant-loop-place l = record {
  rises : Rises l.ids.items;
  left : filter (λ other. not (other == l.id)) l.ids.items ≡ filter (λ other. not (other == l.id)) l.initial.ids.items;
}

abbrev pub decreases-loop-place : goal.decreases-loop-place
decreases-loop-place l = vec_len l.ids
