-- Frames that were refused memory at their start, or an access.
use Rattle.std.specs.Prelude.{Bool, true, false}
use Rattle.program_machine.specs.declared.reason.Reason.{Reason}
use Rattle.program_machine.specs.declared.reason.Reason.TheVariants.{Refused}
use Rattle.bt_workers.specs.declared.result.FrameEnd.{FrameEnd}
use Rattle.bt_interp.specs.declared.end.End.TheVariants.{Aborted}
use Rattle.journal_model.specs.declared.faults.StartFault.TheVariants.{NoMemory}
use Rattle.bt_workers.specs.declared.result.FrameEnd.TheVariants.{Ended, NotStarted}
use Rattle.bt_workers.specs.declared.result.FrameResult.{FrameResult}

abbrev pub is_refusal : Reason → Bool
is_refusal Refused = true
is_refusal _ = false

abbrev pub is_refused_end : FrameEnd → Bool
is_refused_end (NotStarted NoMemory) = true
is_refused_end (Ended (Aborted abort)) = is_refusal abort.reason
is_refused_end _ = false

abbrev pub is_refused : FrameResult → Bool
is_refused it = is_refused_end it.end
