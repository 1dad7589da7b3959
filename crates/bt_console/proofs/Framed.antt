-- A frame's steps one after the other, and what a frame answers.
use Rattle.std.proofs.Common.{◌≡◌, ℕ, Bool, true, false, List, [], ◌∷◌, ◌++◌, refl, sym, ◌∙◌, ap, subst, append_assoc, Option, Some, None, Result, Ok, Err}
use Rattle.std.specs.Prelude.{IsSome}
use Rattle.program_access.specs.declared.reply.AccessReply.{AccessReply}
use Rattle.bt_interp.specs.Runs.{State}
use Rattle.bt_interp.specs.Ends as ends
use Rattle.program_step.specs.Flow.{Flow, Next, Stop}
use Rattle.program_step.specs.declared.outcome.Outcome.TheVariants as outcome
use Rattle.bt_verify.specs.Program.{ProgramView}
use Rattle.journal_model.specs.declared.faults.StartFault.{StartFault}
use Rattle.journal_model.specs.declared.faults.StartFault.TheVariants as fault
use Rattle.journal_model.specs.Book.{PlainBook, OrNoMemory}
use Rattle.journal_model.specs.Serve.{started}
use Rattle.bt_syntax.specs.declared.frame.Frame.{Frame}
use Rattle.bt_console.specs.Commands.{FrameGoes}
use Rattle.bt_console.specs.Frames.{taken, stopped, stepped, unless_ended, framed, begun_with, frame_from, frame_answer, EndsFrom, RunsFrom}
use Rattle.console_answer.specs.declared.answer.Answer.{Answer}
use Rattle.console_answer.specs.declared.answer.Answer.TheVariants.{Ended, Refused}
use Rattle.console_answer.specs.declared.fault.Fault.{Fault}
use Rattle.bt_interp.specs.declared.end.End.{End}
use Rattle.bt_interp.specs.declared.end.End.TheVariants.{NoProgram}
use Rattle.bt_console.proofs.Commanded.{no_verdict, course_of}

-- ---- steps
-- the steps so far: further ones make of the start what they make of where it stands now
pub record CameTo (b : PlainBook) (s : State) (here : PlainBook) (now : State) : Type 0 where
  pub wants : List Bool
  pub onward : (more : List Bool) → framed (wants ++ more) b s ≡ framed more here now

pub came_nowhere : (b : PlainBook) (s : State) → CameTo b s b s
came_nowhere b s = record { wants = []; onward = λ more. refl }

after_step : (b here : PlainBook) (s now : State) (it : CameTo b s here now) (refused : Bool) (more : List Bool) → framed ((it.wants ++ refused ∷ []) ++ more) b s ≡ unless_ended (stepped refused here now) (framed more)
after_step b here s now it refused more =
    ap (λ (wants : List Bool). framed wants b s) (append_assoc it.wants (refused ∷ []) more) ∙ it.onward (refused ∷ more)

pub came_on : (b here next : PlainBook) (s now onward : State) (end : Option End) → CameTo b s here now → (refused : Bool) → (next, onward, end) ≡ stepped refused here now → end ≡ None → CameTo b s next onward
came_on b here next s now onward end it refused step goes = record {
  wants = it.wants ++ refused ∷ [];
  onward = λ more. after_step b here s now it refused more ∙ ap (λ (does : PlainBook × State × Option End). unless_ended does (framed more)) (sym step ∙ ap (λ (e : Option End). (next, onward, e)) goes);
}

pub came_to_end : (b here next : PlainBook) (s now onward : State) (end : Option End) (how : End) → CameTo b s here now → (refused : Bool) → (next, onward, end) ≡ stepped refused here now → end ≡ Some how →
    (wants : List Bool) × (framed wants b s ≡ (next, Some how))
came_to_end b here next s now onward end how it refused step ends = (
  it.wants ++ refused ∷ [],
  it.onward (refused ∷ []) ∙ ap (λ (does : PlainBook × State × Option End). unless_ended does (framed [])) (sym step ∙ ap (λ (e : Option End). (next, onward, e)) ends),
)

-- what an access makes of a run
pub answered : (s new : State) (left : PlainBook) (reply : AccessReply) (does : PlainBook × AccessReply) (end : Option End) → (left, reply) ≡ does → (new, end) ≡ ends.taken s reply → (left, new, end) ≡ taken s does
answered s new left reply does end is goes = ap (λ (it : State × Option End). (left, it.0, it.1)) goes ∙ ap (taken s) is

-- a step that ends the run asks nothing of the book
pub ended_so : (refused : Bool) (b : PlainBook) (flow : Flow × State) (end : End) → ends.ended flow ≡ Some end → (b, flow.1, Some end) ≡ stopped refused b flow
ended_so refused b (Stop (outcome.Done action), s) end is = ap (λ (it : Option End). (b, s, it)) (sym is)
ended_so refused b (Stop (outcome.Abort reason), s) end is = ap (λ (it : Option End). (b, s, it)) (sym is)
ended_so refused b (Stop (outcome.Access access), s) end is = cc
ended_so refused b (Next, s) end is = cc

-- ---- answers
-- a run that began came to its end
pub frame_ran : (b left : PlainBook) (begun : Result (Option State) Fault) (run : State) (wants : List Bool) (end : End) → begun ≡ Ok (Some run) → framed wants b run ≡ (left, Some end) → RunsFrom b begun (left, Ended end)
frame_ran b left begun run wants end is does = (
  wants,
  subst (EndsFrom b wants) (sym is) (subst (λ (it : PlainBook × Option End). IsSome it.1) (sym does) refl),
  sym (ap (frame_from b wants) is ∙ ap (frame_answer b) does),
)

pub frame_at_none : (b : PlainBook) (begun : Result (Option State) Fault) → begun ≡ Ok None → RunsFrom b begun (b, Ended NoProgram)
frame_at_none b begun is = ([], subst (EndsFrom b []) (sym is) tt, sym (ap (frame_from b []) is))

pub frame_at_fault : (b : PlainBook) (begun : Result (Option State) Fault) (why : Fault) → begun ≡ Err why → RunsFrom b begun (b, Refused why)
frame_at_fault b begun why is = ([], subst (EndsFrom b []) (sym is) tt, sym (ap (frame_from b []) is))

-- a frame whose program was picked by the book, or to which memory was refused in that
pub frame_goes : (b left : PlainBook) (frame : Frame) (picked : Result (Option (ProgramView × ℕ)) StartFault) (made : PlainBook × Answer) → OrNoMemory b fault.NoMemory (b, started b frame.device) (left, picked) →
    RunsFrom left (begun_with frame.bytes picked) made → FrameGoes b frame made
frame_goes b left frame picked made (true, e) (wants, ends, is) = record {
  course = course_of true;
  holds = tt;
  is = is ∙ ap (λ (it : PlainBook × Result (Option (ProgramView × ℕ)) StartFault). frame_from it.0 wants (begun_with frame.bytes it.1)) e;
}
frame_goes b left frame picked made (false, e) (wants, ends, is) = record {
  course = record { refused = false; verdict = no_verdict; wants = wants };
  holds = subst (λ (it : PlainBook × Result (Option (ProgramView × ℕ)) StartFault). EndsFrom it.0 wants (begun_with frame.bytes it.1)) e ends;
  is = is ∙ ap (λ (it : PlainBook × Result (Option (ProgramView × ℕ)) StartFault). frame_from it.0 wants (begun_with frame.bytes it.1)) e;
}
