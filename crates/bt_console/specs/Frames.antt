-- Frames on devices and runs that are stepped by hand: what each access of a run makes of the book, and how it ends.
use Rattle.std.specs.Prelude.{◌≡◌, ℕ, ◌+◌, ◌-◌, ◌^◌, ◌==◌, ◌||◌, nat_le, if◌then◌else◌, Bool, false, List, [], ◌∷◌, ◌++◌, length, remove, slice_get, slice_set, option_map, Option, Some, None, IsSome, IfSome, Result, Ok, Err, ⊤}
use Rattle.bt_mapkind.specs.declared.errno.Errno.TheVariants.{ENOENT}
use Rattle.bt_verify.specs.Program.{ProgramView}
use Rattle.program_access.specs.declared.access.Access.{Access}
use Rattle.program_access.specs.declared.reply.AccessReply.{AccessReply}
use Rattle.program_step.specs.Flow.{Flow, Next, Stop}
use Rattle.bt_interp.specs.Runs.{State, advanced}
use Rattle.bt_interp.specs.Runs as interp
use Rattle.bt_interp.specs.Ends as ends
use Rattle.program_step.specs.declared.outcome.Outcome.TheVariants as outcome
use Rattle.journal_model.specs.declared.faults.StartFault.{StartFault}
use Rattle.journal_model.specs.Book.{PlainBook}
use Rattle.journal_model.specs.Serve.{started, served, want_told}
use Rattle.bt_syntax.specs.declared.frame.Frame.{Frame}
use Rattle.console_answer.specs.Answers.{start_fault_of}
use Rattle.console_answer.specs.declared.answer.Answer.{Answer}
use Rattle.console_answer.specs.declared.answer.Answer.TheVariants as answer
use Rattle.console_answer.specs.declared.fault.Fault.{Fault}
use Rattle.console_answer.specs.declared.fault.Fault.TheVariants as fault
use Rattle.bt_interp.specs.declared.end.End.{End}
use Rattle.bt_interp.specs.declared.end.End.TheVariants.{Done, NoProgram}

-- ---- a step
-- what the book tells the program that is running; or an allocation failed in it
abbrev pub told : Bool → PlainBook → ℕ → Access → PlainBook × AccessReply
told refused b prog access = if refused then (b, want_told access) else served b prog access

-- a run that takes what it is told goes on, or ends by it
abbrev pub taken : State → PlainBook × AccessReply → PlainBook × State × Option End
taken s does = let after : State × Option End = ends.taken s does.1 in (does.0, after.0, after.1)

abbrev pub stopped : Bool → PlainBook → Flow × State → PlainBook × State × Option End
stopped refused b (Stop (outcome.Access access), s) = taken s (told refused b s.program.id access)
stopped refused b (Stop (outcome.Done action), s) = (b, s, Some (Done action))
stopped refused b (Stop (outcome.Abort reason), s) = (b, s, Some (ends.aborted s reason))
stopped refused b (Next, s) = (b, s, None)

-- to the next access and through it, or to the end
abbrev pub stepped : Bool → PlainBook → State → PlainBook × State × Option End
stepped refused b s = stopped refused b (advanced s)

-- ---- a frame
abbrev pub unless_ended : PlainBook × State × Option End → (PlainBook → State → PlainBook × Option End) → PlainBook × Option End
unless_ended (b, s, Some end) onward = (b, Some end)
unless_ended (b, s, None) onward = onward b s

-- one step after the other, with whether an allocation failed in each: where it ends, and how
abbrev pub framed : List Bool → PlainBook → State → PlainBook × Option End
framed [] b s = (b, None)
framed (refused ∷ wants) b s = unless_ended (stepped refused b s) (framed wants)

-- the run of a program on a frame
abbrev pub begun_with : List ℕ → Result (Option (ProgramView × ℕ)) StartFault → Result (Option State) Fault
begun_with bytes (Err why) = Err (start_fault_of why)
begun_with bytes (Ok None) = Ok None
begun_with bytes (Ok (Some (program, ifindex))) = Ok (Some (interp.started program ifindex bytes))

-- the run of the program at a frame's device, if there is one
abbrev pub run_on : PlainBook → Frame → Result (Option State) Fault
run_on b frame = begun_with frame.bytes (started b frame.device)

-- steps that come to no end answer nothing that a frame does
abbrev pub frame_answer : PlainBook → PlainBook × Option End → PlainBook × Answer
frame_answer b (left, Some end) = (left, answer.Ended end)
frame_answer b (left, None) = (b, answer.Refused fault.NoMemory)

abbrev pub frame_from : PlainBook → List Bool → Result (Option State) Fault → PlainBook × Answer
frame_from b wants (Err why) = (b, answer.Refused why)
frame_from b wants (Ok None) = (b, answer.Ended NoProgram)
frame_from b wants (Ok (Some s)) = frame_answer b (framed wants b s)

abbrev pub frame_done : PlainBook → List Bool → Frame → PlainBook × Answer
frame_done b wants frame = frame_from b wants (run_on b frame)

-- there is a step for each access up to the end
abbrev pub EndsFrom : PlainBook → List Bool → Result (Option State) Fault → Type 0
EndsFrom b wants (Ok (Some s)) = IsSome (framed wants b s).1
EndsFrom b wants (Ok None) = ⊤
EndsFrom b wants (Err why) = ⊤

-- a frame whose run began so was run to its end, in some steps
abbrev pub RunsFrom : PlainBook → Result (Option State) Fault → PlainBook × Answer → Type 0
RunsFrom b begun made = (wants : List Bool) × EndsFrom b wants begun × (made ≡ frame_from b wants begun)

abbrev pub FrameEnds : PlainBook → List Bool → Frame → Type 0
FrameEnds b wants frame = EndsFrom b wants (run_on b frame)

-- ---- open runs
-- each with its number, and the number that was given last
pub record OpenRuns : Type 0 where
  pub runs : List (ℕ × State)
  pub last : ℕ

abbrev pub no_runs : OpenRuns
no_runs = record { runs = []; last = 0 }

-- a console between two lines
pub record Console : Type 0 where
  pub book : PlainBook
  pub runs : OpenRuns

abbrev pub console_of : PlainBook → OpenRuns → Console
console_of b runs = record { book = b; runs = runs }

-- what leaves the runs
abbrev pub on_book : Console → PlainBook × Answer → Console × Answer
on_book c done = (console_of done.0 c.runs, done.1)

-- 64 are open, or the last number was given
abbrev pub are_full : OpenRuns → Bool
are_full runs = nat_le 64 (length runs.runs) || runs.last == 2 ^ 64 - 1

abbrev pub with_run : OpenRuns → State → OpenRuns
with_run runs s = record { runs = runs.runs ++ (runs.last + 1, s) ∷ []; last = runs.last + 1 }

abbrev pub run_started : Console → Result (Option State) Fault → Console × Answer
run_started c (Err why) = (c, answer.Refused why)
run_started c (Ok None) = (c, answer.Refused (fault.Errno ENOENT))
run_started c (Ok (Some s)) = (console_of c.book (with_run c.runs s), answer.Started (c.runs.last + 1))

abbrev pub run_start : Console → Frame → Console × Answer
run_start c frame = if are_full c.runs then (c, answer.Refused fault.RunsFull) else run_started c (run_on c.book frame)

-- the open run of a number, with its place
abbrev pub one_on : Option (ℕ × State) → Option (ℕ × State)
one_on None = None
one_on (Some (place, s)) = Some (place + 1, s)

abbrev pub run_of : ℕ → List (ℕ × State) → Option (ℕ × State)
run_of number [] = None
run_of number (run ∷ runs) = if run.0 == number then Some (0, run.1) else one_on (run_of number runs)

abbrev pub place_of : ℕ → List (ℕ × State) → Option ℕ
place_of number runs = option_map (λ it. it.0) (run_of number runs)

-- a run that goes on stays open; one that ended is gone
abbrev pub left_open : List (ℕ × State) → ℕ → ℕ → State → Option End → List (ℕ × State)
left_open runs place number s None = slice_set runs place (number, s)
left_open runs place number s (Some end) = remove runs place

-- the run of this number at a place took a step
abbrev pub stepped_at : List (ℕ × State) → ℕ → ℕ → PlainBook × State × Option End → PlainBook × List (ℕ × State) × Option End
stepped_at runs place number does = (does.0, left_open runs place number does.1 does.2, does.2)

abbrev pub StepsAt : Bool → PlainBook → List (ℕ × State) → ℕ → PlainBook × List (ℕ × State) × Option End → Type 0
StepsAt refused b runs place made = IfSome (slice_get runs place) (λ run. made ≡ stepped_at runs place run.0 (stepped refused b run.1))

abbrev pub with_open : OpenRuns → PlainBook × List (ℕ × State) × Option End → PlainBook × OpenRuns × Option End
with_open runs does = (does.0, record runs { runs = does.1 }, does.2)

abbrev pub run_stepped : OpenRuns → ℕ → ℕ → PlainBook × State × Option End → PlainBook × OpenRuns × Option End
run_stepped runs place number does = with_open runs (stepped_at runs.runs place number does)

abbrev pub RunStepsAt : Bool → PlainBook → OpenRuns → ℕ → PlainBook × OpenRuns × Option End → Type 0
RunStepsAt refused b runs place made = IfSome (slice_get runs.runs place) (λ run. made ≡ run_stepped runs place run.0 (stepped refused b run.1))

abbrev pub step_answer : ℕ → Option End → Answer
step_answer number None = answer.Accessed number
step_answer number (Some end) = answer.Stopped number end

abbrev pub run_told : ℕ → PlainBook × OpenRuns × Option End → Console × Answer
run_told number does = (console_of does.0 does.1, step_answer number does.2)

abbrev pub step_at : Console → Bool → ℕ → Option (ℕ × State) → Console × Answer
step_at c refused number None = (c, answer.Refused fault.NoRun)
step_at c refused number (Some (place, s)) = run_told number (run_stepped c.runs place number (stepped refused c.book s))

-- a step has one access at most
abbrev pub first_want : List Bool → Bool
first_want [] = false
first_want (refused ∷ wants) = refused

abbrev pub run_step : Console → List Bool → ℕ → Console × Answer
run_step c wants number = step_at c (first_want wants) number (run_of number c.runs.runs)
