use Rattle.std.proofs.Common.{◌≡◌, ◌-◌, length}
use Rattle.journal_keeping.specs.Boxes.{states_of}
use Rattle.journal_model.specs.Plain.{cut}
use Rattle.journal_keeping.specs.Calls.{calls_back}
use Rattle.host_state.proofs.CallLemmas.{CallsLeft}
use Rattle.journal_keeping.proofs.going.go_back.Given as goal

abbrev pub invariant-loop-line : goal.invariant-loop-line
invariant-loop-line g l = record {
  pasts : cut l.count l.line.pasts ≡ cut l.count l.initial.line.pasts;
  boxes : l.line.makes ≡ l.initial.line.makes;
  states : states_of l.line.pasts ≡ states_of l.initial.line.pasts;
  work : CallsLeft (calls_back (length l.initial.line.pasts.moments - l.count) l.initial.line.pasts.moments) (calls_back (length l.line.pasts.moments - l.count) l.line.pasts.moments) l.initial.line.work l.line.work;
}

abbrev pub decreases-loop-line : goal.decreases-loop-line
decreases-loop-line g l = length l.line.pasts.moments
