-- What a tally counts.
use Rattle.std.specs.Prelude.{ℕ, ◌+◌, ◌-◌, ◌^◌, min}
use Rattle.program_step.specs.declared.outcome.Action.{Action}
use Rattle.program_step.specs.declared.outcome.Action.TheVariants as action
use Rattle.bt_workers.specs.declared.result.FrameEnd.{FrameEnd}
use Rattle.bt_interp.specs.declared.end.End.TheVariants.{Done, Aborted, NoProgram}
use Rattle.journal_model.specs.declared.faults.StartFault.TheVariants.{NoDevice, NoMemory}
use Rattle.bt_workers.specs.declared.result.FrameEnd.TheVariants.{Ended, NotStarted, SeatSpent}
use Rattle.thread_rounds.specs.declared.tally.Tally.{Tally}

-- one more, of at most 2^64 - 1
abbrev pub more : ℕ → ℕ
more n = min (n + 1) (2 ^ 64 - 1)

-- one more frame whose program decided this
abbrev pub decided : Tally → Action → Tally
decided tally action.Aborted = record tally { aborted = more tally.aborted }
decided tally action.Drop = record tally { drop = more tally.drop }
decided tally action.Pass = record tally { pass = more tally.pass }
decided tally action.Tx = record tally { tx = more tally.tx }
decided tally action.Redirect = record tally { redirect = more tally.redirect }

-- one more that ended so
abbrev pub ended : Tally → FrameEnd → Tally
ended tally (Ended (Done action)) = decided tally action
ended tally (Ended (Aborted why)) = record tally { faulted = more tally.faulted }
ended tally (Ended NoProgram) = record tally { no_program = more tally.no_program }
ended tally (NotStarted NoDevice) = record tally { no_device = more tally.no_device }
ended tally (NotStarted NoMemory) = record tally { no_memory = more tally.no_memory }
ended tally SeatSpent = record tally { spent = more tally.spent }

-- one more frame, which ended so
abbrev pub counted : Tally → FrameEnd → Tally
counted tally end = ended (record tally { frames = more tally.frames }) end
