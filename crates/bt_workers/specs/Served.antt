-- What a frame asks of a desk by a seat, and how it ends by the answers.
use Rattle.std.specs.Prelude.{◌≡◌, ℕ, ◌+◌, ◌-◌, ◌<◌, List, [], ◌∷◌, ◌++◌, length, Option, Some, None, Result, Ok, Err}
use mathlib.Core.List.{IsPrefix}
use Rattle.bt_verify.specs.Program.{ProgramView}
use Rattle.program_access.specs.declared.access.Access as accesses
use Rattle.program_access.specs.declared.reply.AccessReply.{AccessReply}
use Rattle.program_step.specs.Flow.{Flow, Next, Stop}
use Rattle.bt_interp.specs.Runs.{State, started, advanced, resumed}
use Rattle.bt_interp.specs.Ends.{aborted}
use Rattle.bt_interp.specs.declared.end.End.TheVariants as ends
use Rattle.program_step.specs.declared.outcome.Outcome.TheVariants as outcome
use Rattle.journal_model.specs.Book.{PlainBook}
use Rattle.journal_model.specs.Run.{PlainEvent, Start, Serve}
use Rattle.journal_model.specs.declared.faults.StartFault.{StartFault}
use Rattle.bt_desk.specs.Answer.{Answer}
use Rattle.bt_desk.specs.Answer.TheVariants.{Started, Served}
use Rattle.thread_lock.specs.declared.sequential.Sequential.{Ghosts}
use Rattle.thread_lock.specs.declared.seat.Seat.{Seat}
use Rattle.thread_lock.specs.Seats.{Called, seen, numbers, own_calls, calls_left}
use Rattle.bt_desk.specs.Histories.{Call}
use Rattle.thread_frames.specs.declared.frame.FrameIn.{FrameIn}
use Rattle.bt_workers.specs.declared.result.FrameEnd.{FrameEnd}
use Rattle.bt_workers.specs.declared.result.FrameEnd.TheVariants.{Ended, NotStarted, SeatSpent}

-- a frame has ended, and calls nothing more
abbrev pub EndsBy : FrameEnd → List Call → FrameEnd → Type 0
EndsBy as_this calls end = (calls ≡ []) × (end ≡ as_this)

-- A run goes on by these calls, each an access of the program that is running, to its end; if its seat has no call left
-- for the next access, it ends by that. The number is how many calls the seat has left
abbrev pub RunsBy : ℕ → Flow × State → List Call → FrameEnd → Type 0
RunsBy left (Stop (outcome.Access access), s) [] end = (left ≡ 0) × (end ≡ SeatSpent)
RunsBy left (Stop (outcome.Access access), s) (call ∷ calls) end =
    (0 < left) × (call.event ≡ Serve s.program.id access)
    × ((reply : AccessReply) × (call.answer ≡ Served reply) × RunsBy (left - 1) (advanced (resumed s reply).1) calls end)
RunsBy left (Stop (outcome.Done action), s) calls end = EndsBy (Ended (ends.Done action)) calls end
RunsBy left (Stop (outcome.Abort reason), s) calls end = EndsBy (Ended (aborted s reason)) calls end
RunsBy left (Next, s) calls end = ⊥

-- what comes of the answer to a frame's start
abbrev pub GoesOn : ℕ → List ℕ → Result (Option (ProgramView × ℕ)) StartFault → List Call → FrameEnd → Type 0
GoesOn left bytes (Ok (Some (program, ifindex))) calls end = RunsBy left (advanced (started program ifindex bytes)) calls end
GoesOn left bytes (Ok None) calls end = EndsBy (Ended ends.NoProgram) calls end
GoesOn left bytes (Err fault) calls end = EndsBy (NotStarted fault) calls end

-- a frame asks for the program of its device, and its run goes on by the other calls
abbrev pub FrameBy : ℕ → FrameIn → List Call → FrameEnd → Type 0
FrameBy left frame [] end = (left ≡ 0) × (end ≡ SeatSpent)
FrameBy left frame (call ∷ calls) end =
    (0 < left) × (call.event ≡ Start frame.device)
    × ((picked : Result (Option (ProgramView × ℕ)) StartFault) × (call.answer ≡ Started picked) × GoesOn (left - 1) frame.bytes.items picked calls end)

module _ {g : Ghosts PlainBook PlainEvent Answer} where
  -- a seat made these calls of its own, and no others
  pub record Gains (old : Seat PlainBook PlainEvent Answer g) (calls : List Call) (new : Seat PlainBook PlainEvent Answer g) : Type 0 where
    pub begins : IsPrefix (seen old) (seen new)
    pub gained : own_calls new ≡ own_calls old ++ calls
    pub same_numbers : numbers new ≡ numbers old
    pub fewer : calls_left new + length calls ≡ calls_left old

  -- a run made one access by a call of the seat, or ended without one
  abbrev pub Steps : Seat PlainBook PlainEvent Answer g → State → Option FrameEnd → Seat PlainBook PlainEvent Answer g → State → Type 0
  Steps old s (Some end) new t = (new ≡ old) × RunsBy (calls_left old) (advanced s) [] end
  Steps old s None new t =
      (access : accesses.Access) × (at : State) × (reply : AccessReply)
      × (advanced s ≡ (Stop (outcome.Access access), at)) × Called old (Serve at.program.id access) (Served reply) new × (t ≡ (resumed at reply).1)
