use Rattle.std.proofs.Common.{refl}
use Rattle.thread_kept_frames.specs.Portions.{none}
use Rattle.thread_kept_frames.proofs.Turns.{flowed_one}
use Rattle.thread_kept_frames.proofs.live.flow_on.Goals as goal

pub returns-in_default-clause-flowed : goal.returns-in_default-clause-flowed
returns-in_default-clause-flowed g c = none

pub returns-in_default-clause-dialogue : goal.returns-in_default-clause-dialogue
returns-in_default-clause-dialogue g c = refl

pub returns-in_default-clause-clean : goal.returns-in_default-clause-clean
returns-in_default-clause-clean g c clean = clean

pub returns-in_default-clause-kept : goal.returns-in_default-clause-kept
returns-in_default-clause-kept g c clean t on = on

pub returns-in_default-clause-good : goal.returns-in_default-clause-good
returns-in_default-clause-good g c good is = cc

pub returns-in-Ok-clause-flowed : goal.returns-in-Ok-clause-flowed
returns-in-Ok-clause-flowed g c = flowed_one c.args.flow.now.frames.items c.args.flow.now.passes c.in-Ok.ensures.served

pub returns-in-Ok-clause-dialogue : goal.returns-in-Ok-clause-dialogue
returns-in-Ok-clause-dialogue g c = refl

pub returns-in-Ok-clause-clean : goal.returns-in-Ok-clause-clean
returns-in-Ok-clause-clean g c = c.keep_next.ensures.clean

pub returns-in-Ok-clause-kept : goal.returns-in-Ok-clause-kept
returns-in-Ok-clause-kept g c = c.in-Ok.ensures.kept

pub returns-in-Ok-clause-good : goal.returns-in-Ok-clause-good
returns-in-Ok-clause-good g c good is = cc

pub returns-in-Err-clause-clean : goal.returns-in-Err-clause-clean
returns-in-Err-clause-clean g c = c.keep_next.ensures.clean

pub returns-in-Err-clause-left : goal.returns-in-Err-clause-left
returns-in-Err-clause-left g c = c.in-Err.ensures.left

pub returns-in-Err-clause-good : goal.returns-in-Err-clause-good
returns-in-Err-clause-good g c good is = c.in-Err.ensures.good good (cc)
