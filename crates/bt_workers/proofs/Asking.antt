-- What a run does on the answers to its calls is what its replies lead to.
use Rattle.std.proofs.Common.{◌≡◌, ℕ, ◌-◌, Option, Some, None, Result, Ok, List, [], ◌∷◌, ◌++◌, refl, sym, ap, subst}
use Rattle.bt_verify.specs.Program.{ProgramView}
use Rattle.program_access.specs.declared.access.Access.{Access}
use Rattle.program_access.specs.declared.reply.AccessReply.{AccessReply}
use Rattle.program_machine.specs.declared.reason.Reason.{Reason}
use Rattle.program_step.specs.Flow.{Flow, Next, Stop}
use Rattle.program_step.specs.declared.outcome.Outcome.{Outcome}
use Rattle.program_step.specs.declared.outcome.Outcome.TheVariants as outcome
use Rattle.bt_interp.specs.Runs.{State, started, advanced, resumed, events}
use Rattle.bt_interp.specs.declared.end.Abort.{Abort}
use Rattle.journal_model.specs.declared.faults.StartFault.{StartFault}
use Rattle.bt_desk.specs.Answer.TheVariants.{Started}
use Rattle.bt_desk.specs.Histories.{Call}
use Rattle.thread_frames.specs.declared.frame.FrameIn.{FrameIn}
use Rattle.bt_workers.specs.declared.result.FrameEnd.{FrameEnd}
use Rattle.bt_workers.specs.Served.{RunsBy, GoesOn}
use Rattle.bt_workers.specs.Asked.{Made, AreOf, AsksOnReplies}

abbrev abort_of : State → Reason → Abort
abort_of s reason = record { reason = reason; prog = s.program.id; slot = s.machine.place }

-- an access more in front of both
one_more : (access : Access) (listed : List Access × Option Outcome) (made : List Access) (end : FrameEnd) → AreOf listed made end → AreOf (access ∷ listed.0, listed.1) (access ∷ made) end
one_more access (asked, Some (outcome.Done action)) made end h = (ap (λ (l : List Access). access ∷ l) h.0, h.1)
one_more access (asked, Some (outcome.Abort reason)) made end h = (ap (λ (l : List Access). access ∷ l) h.0, h.1)
one_more access (asked, Some (outcome.Access next)) made end h = absurd h
one_more access (asked, None) made end h = ((h.0.0, ap (λ (l : List Access). access ∷ l) h.0.1), h.1)

asks : (left : ℕ) (flow : Flow × State) (calls : List Call) (end : FrameEnd) → RunsBy left flow calls end
    → (accesses : List Access) × (replies : List AccessReply) × Made calls accesses replies × AreOf (events flow replies) accesses end
asks left (Stop (outcome.Access access), s) [] end h = ([], [], (refl, refl), ((access, refl), h.1))
asks left (Stop (outcome.Access access), s) (call ∷ calls) end h =
    let reply : AccessReply = h.2.0 in
    let flow : Flow × State = advanced (resumed s reply).1 in
    let rest = asks (left - 1) flow calls end h.2.2 in
    (access ∷ rest.0, reply ∷ rest.1, ((s.program.id, h.1), h.2.1, rest.2), one_more access (events flow rest.1) rest.0 end rest.3)
asks left (Stop (outcome.Done action), s) calls end h = ([], [], subst (λ (these : List Call). Made these [] []) (sym h.0) (refl, refl), (refl, h.1))
asks left (Stop (outcome.Abort reason), s) calls end h = ([], [], subst (λ (these : List Call). Made these [] []) (sym h.0) (refl, refl), (refl, (abort_of s reason, refl, h.1)))
asks left (Next, s) calls end h = absurd h

pub asks_on_replies : (left : ℕ) (frame : FrameIn) (start : Call) (calls : List Call) (end : FrameEnd) (program : ProgramView) (ifindex : ℕ) → AsksOnReplies left frame start calls end program ifindex
asks_on_replies left frame start calls end program ifindex by is =
    let picked : Result (Option (ProgramView × ℕ)) StartFault = by.2.0 in
    let answered : start.answer ≡ Started picked = by.2.1 in
    let same : picked ≡ Ok (Some (program, ifindex)) = cc in
    let goes : RunsBy (left - 1) (advanced (started program ifindex frame.bytes.items)) calls end = subst (λ (p : Result (Option (ProgramView × ℕ)) StartFault). GoesOn (left - 1) frame.bytes.items p calls end) same by.2.2 in
    let r = asks (left - 1) (advanced (started program ifindex frame.bytes.items)) calls end goes in
    record { accesses = r.0; replies = r.1; made = r.2; events = r.3 }
