-- What went wrong in a line, by its answer.
use Rattle.std.specs.Prelude.{Option, Some, None}
use Rattle.console_answer.specs.declared.answer.Answer.{Answer}
use Rattle.console_answer.specs.declared.answer.Answer.TheVariants as answer
use Rattle.program_step.specs.declared.outcome.Action.TheVariants as action
use Rattle.bt_interp.specs.declared.end.End.{End}
use Rattle.bt_interp.specs.declared.end.End.TheVariants as end
use Rattle.console_answer.specs.declared.mishap.Mishap.{Mishap}
use Rattle.console_answer.specs.declared.mishap.Mishap.TheVariants.{Refused, Aborted, NoAction}

-- by how its program ended
abbrev pub mishap_of_end : End → Option Mishap
mishap_of_end (end.Aborted abort) = Some (Aborted abort)
mishap_of_end (end.Done action.Aborted) = Some NoAction
mishap_of_end _ = None

abbrev pub mishap_of : Answer → Option Mishap
mishap_of (answer.Refused fault) = Some (Refused fault)
mishap_of (answer.Ended it) = mishap_of_end it
mishap_of (answer.Stopped run it) = mishap_of_end it
mishap_of _ = None

-- the later of two, if there are two
abbrev pub later : Option Mishap → Option Mishap → Option Mishap
later first None = first
later first (Some second) = Some second

-- what went wrong last up to an answer
abbrev pub mishap_behind : Option Mishap → Option Answer → Option Mishap
mishap_behind before None = before
mishap_behind before (Some it) = later before (mishap_of it)
