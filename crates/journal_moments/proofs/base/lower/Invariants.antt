use Rattle.std.proofs.Common.{◌≡◌, take, drop}
use Rattle.journal_moments.specs.Lowered.{AllLowered}
use Rattle.journal_moments.proofs.base.lower.Given as goal

abbrev pub invariant-loop-moment : goal.invariant-loop-moment
invariant-loop-moment l = record {
  lowered : AllLowered l.count (take l.moment-index l.initial.moments) (take l.moment-index l.moments);
  rest : drop l.moment-index l.moments ≡ drop l.moment-index l.initial.moments;
}
