-- What a frame asks and how it ends, by the replies that it got.
use Rattle.std.specs.Prelude.{◌≡◌, ℕ, List, [], ◌∷◌, ◌++◌, Option, Some, None, Ok}
use Rattle.bt_verify.specs.Program.{ProgramView}
use Rattle.program_access.specs.declared.access.Access.{Access}
use Rattle.program_access.specs.declared.reply.AccessReply.{AccessReply}
use Rattle.program_step.specs.declared.outcome.Outcome.{Outcome}
use Rattle.program_step.specs.declared.outcome.Outcome.TheVariants as outcome
use Rattle.bt_interp.specs.Runs.{frame_events}
use Rattle.bt_interp.specs.declared.end.Abort.{Abort}
use Rattle.bt_interp.specs.declared.end.End.TheVariants.{Done, Aborted}
use Rattle.journal_model.specs.Run.{Serve}
use Rattle.bt_desk.specs.Answer.TheVariants.{Started, Served}
use Rattle.bt_desk.specs.Histories.{Call}
use Rattle.thread_frames.specs.declared.frame.FrameIn.{FrameIn}
use Rattle.bt_workers.specs.declared.result.FrameEnd.{FrameEnd}
use Rattle.bt_workers.specs.declared.result.FrameEnd.TheVariants.{Ended, SeatSpent}
use Rattle.bt_workers.specs.Served.{FrameBy}

-- the calls made these accesses and got these replies
abbrev pub Made : List Call → List Access → List AccessReply → Type 0
Made [] accesses replies = (accesses ≡ []) × (replies ≡ [])
Made (call ∷ calls) (access ∷ accesses) (reply ∷ replies) = ((prog : ℕ) × (call.event ≡ Serve prog access)) × (call.answer ≡ Served reply) × Made calls accesses replies
Made (call ∷ calls) _ _ = ⊥

-- what a run asks and how it ends are these accesses and this end; if its seat was spent, it asks one access more, and
-- has not ended
abbrev pub AreOf : List Access × Option Outcome → List Access → FrameEnd → Type 0
AreOf (asked, Some (outcome.Done action)) made end = (asked ≡ made) × (end ≡ Ended (Done action))
AreOf (asked, Some (outcome.Abort reason)) made end = (asked ≡ made) × ((why : Abort) × (why.reason ≡ reason) × (end ≡ Ended (Aborted why)))
AreOf (asked, Some (outcome.Access access)) made end = ⊥
AreOf (asked, None) made end = ((next : Access) × (asked ≡ made ++ next ∷ [])) × (end ≡ SeatSpent)

-- a frame made these calls and ended so, as its program does on the replies to them
pub record AsksAs (program : ProgramView) (ifindex : ℕ) (bytes : List ℕ) (calls : List Call) (end : FrameEnd) : Type 0 where
  pub accesses : List Access
  pub replies : List AccessReply
  pub made : Made calls accesses replies
  pub events : AreOf (frame_events program ifindex bytes replies) accesses end

-- the calls of a frame after its start, which gave it a program
abbrev pub AsksOnReplies : ℕ → FrameIn → Call → List Call → FrameEnd → ProgramView → ℕ → Type 0
AsksOnReplies left frame start calls end program ifindex =
    FrameBy left frame (start ∷ calls) end → start.answer ≡ Started (Ok (Some (program, ifindex))) → AsksAs program ifindex frame.bytes.items calls end
