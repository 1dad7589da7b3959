-- What is told of a line, by its answer.
use Rattle.std.specs.Prelude.{Option, Some, None}
use Rattle.console_answer.specs.declared.answer.Answer.{Answer}
use Rattle.console_answer.specs.declared.answer.Answer.TheVariants as answer
use Rattle.bt_interp.specs.declared.end.End.TheVariants as end
use Rattle.program_step.specs.declared.outcome.Action.TheVariants as action
use Rattle.bt_interp.specs.declared.end.End.{End}
use Rattle.console_answer.specs.declared.told.Told.{Told}
use Rattle.console_answer.specs.declared.told.Told.TheVariants as told

-- of a line whose program ended so
abbrev pub told_of_end : End → Told
told_of_end (end.Aborted abort) = told.Aborted abort
told_of_end (end.Done action.Aborted) = told.NoAction
told_of_end _ = told.Accepted

abbrev pub told_of : Option Answer → Told
told_of None = told.Empty
told_of (Some (answer.Refused fault)) = told.Refused fault
told_of (Some (answer.Processed count)) = told.Processed
told_of (Some (answer.Ended it)) = told_of_end it
told_of (Some (answer.Stopped run it)) = told_of_end it
told_of (Some _) = told.Accepted
