use Rattle.std.proofs.Common.{◌++◌, ap, sym, ◌∙◌}
use Rattle.thread_frames.specs.Faults.{IsShort}
use Rattle.thread_frames.proofs.Deals.{next_of}
use Rattle.thread_frames.proofs.frames.fill.Goals as goal

pub invariant_of-put : goal.invariant_of-put
invariant_of-put g c = record {
  short = next_of IsShort _ _ _ _ (ap (λ rest. c.loop-frame.yielded ++ rest) (sym c.in-Some.ensures.steps.0) ∙ c.loop-frame.invariant.3) c.requires.short;
}
