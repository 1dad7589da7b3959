-- Lines as events of the book.
use Rattle.std.proofs.Common.{ℕ, Bool, true, false, cond, List, [], ◌∷◌, ◌++◌, length, refl, sym, ◌∙◌, ap, Option, Some, None, Result, Ok, Err, ◌≤◌, arith}
use Rattle.std.specs.Prelude.{◌&&◌}
use Rattle.std.specs.List.{AllByRecursion}
use Rattle.host_state.specs.declared.change.Change.{Change}
use Rattle.host_state.specs.declared.change.Change.TheVariants.{Unpin, Detach}
use Rattle.program_step.specs.Flow.{Flow, Next, Stop}
use Rattle.bt_interp.specs.Runs.{State, advanced}
use Rattle.program_step.specs.declared.outcome.Outcome.TheVariants as outcome
use Rattle.program_access.specs.declared.access.Access.{Access}
use Rattle.journal_model.specs.Blank.{Blank}
use Rattle.journal_model.specs.Book.{PlainBook}
use Rattle.journal_model.specs.Run.{Record, Mark, UndoTo, UndoLast, Redo, Forget, ListAll, Without, Start as Started, Serve, Given, book_after}
use Rattle.journal_model.proofs.Running.{book_after-append}
use Rattle.bt_syntax.specs.Steps.{line_read}
use Rattle.bt_syntax.specs.declared.files.FileText.{FileText}
use Rattle.bt_syntax.specs.declared.fault.SyntaxFault.{SyntaxFault}
use Rattle.console_operand.specs.declared.reference.Reference.{Reference}
use Rattle.console_map_syntax.specs.declared.command.UpdateFlag.TheVariants.{Any}
use Rattle.console_map_syntax.specs.declared.command.MapCommand.{MapCommand}
use Rattle.console_map_syntax.specs.declared.command.MapCommand.TheVariants as m
use Rattle.bt_console.specs.declared.edit.Edit.{Edit}
use Rattle.bt_console.specs.declared.edit.Edit.TheVariants as edit
use Rattle.bt_syntax.specs.declared.prog.command.ProgCommand.{ProgCommand}
use Rattle.bt_syntax.specs.declared.prog.command.ProgCommand.TheVariants as p
use Rattle.bt_syntax.specs.declared.net.command.NetCommand.{NetCommand}
use Rattle.bt_syntax.specs.declared.net.command.NetCommand.TheVariants as n
use Rattle.bt_syntax.specs.declared.journal.JournalCommand.{JournalCommand}
use Rattle.bt_syntax.specs.declared.journal.JournalCommand.TheVariants as j
use Rattle.bt_syntax.specs.declared.frame.Frame.{Frame}
use Rattle.bt_syntax.specs.declared.run.RunCommand.{RunCommand}
use Rattle.bt_syntax.specs.declared.run.RunCommand.TheVariants as r
use Rattle.bt_syntax.specs.declared.command.Command.{Command}
use Rattle.bt_syntax.specs.declared.command.Command.TheVariants as c
use Rattle.console_reference.specs.References.{map_named, prog_named, template_named}
use Rattle.console_reference.specs.Programs.{Verdict}
use Rattle.bt_console.specs.Frames.{Console, stepped, stopped, told, framed, unless_ended, run_on, frame_from, frame_answer, frame_done, are_full, run_started, run_start, run_of, step_at, first_want, run_step}
use Rattle.bt_interp.specs.declared.end.End.{End}
use Rattle.bt_console.specs.Commands.{making, change_at, recorded_if, changed_at, map_done, pinning, loading, prog_done, attaching, net_done, journal_done, run_done, command_done, unless_refused, Course}
use Rattle.bt_console.specs.Lines.{takes_memory, with_files, read_done, line_done}
use Rattle.bt_console.specs.Laws.{LeadsByEvents, LeadsByOneEvent, IsSingle, IsOneEvent, IsAccess, LeadsByAccesses, IsStartAndAccesses, IsOneAccessAtMost}
use Rattle.console_answer.specs.declared.answer.Answer.{Answer}
use Rattle.console_answer.specs.declared.answer.Answer.TheVariants.{Refused}
use Rattle.console_answer.specs.declared.fault.Fault.{Fault}
use Rattle.console_answer.specs.declared.fault.Fault.TheVariants.{NoMemory, RunsFull}

-- ---- one event
-- a question changes nothing
asks : (b : PlainBook) → LeadsByOneEvent b b
asks b = record { given = (false, ListAll); book = refl }

one_found : (b : PlainBook) (change : Result Change Fault) (blank : Option Blank) → LeadsByOneEvent b (recorded_if b change blank).0
one_found b (Err why) blank = asks b
one_found b (Ok it) blank = record { given = (false, Record it blank); book = refl }

one_edit : (b : PlainBook) (map : Reference (List ℕ)) (edit : Edit) → LeadsByOneEvent b (changed_at b map edit).0
one_edit b map edit = one_found b (change_at b (map_named b map) edit) None

one_map : (b : PlainBook) (command : MapCommand) (blank : Option Blank) → LeadsByOneEvent b (map_done b command blank).0
one_map b (m.Show None) blank = asks b
one_map b (m.Show (Some map)) blank = asks b
one_map b (m.Create path attr name inner_map) blank = one_found b (making path attr name (template_named b inner_map)) blank
one_map b (m.Dump map) blank = asks b
one_map b (m.Update map key value flag) blank = one_edit b map (edit.Write key value flag)
one_map b (m.Lookup map key) blank = asks b
one_map b (m.GetNext map key) blank = asks b
one_map b (m.Delete map key) blank = one_edit b map (edit.Delete key)
one_map b (m.Peek map) blank = asks b
one_map b (m.Push map value) blank = one_edit b map (edit.Write None value Any)
one_map b (m.Pop map) blank = one_edit b map edit.Pop
one_map b (m.Freeze map) blank = one_edit b map edit.Freeze
one_map b (m.Pin map path) blank = one_edit b map (edit.Pin path)

one_journal : (b : PlainBook) (command : JournalCommand) → LeadsByOneEvent b (journal_done b command).0
one_journal b (j.Mark name) = record { given = (false, Mark name); book = refl }
one_journal b (j.Undo None) = record { given = (false, UndoLast); book = refl }
one_journal b (j.Undo (Some name)) = record { given = (false, UndoTo name); book = refl }
one_journal b j.Redo = record { given = (false, Redo); book = refl }
one_journal b (j.Forget name) = record { given = (false, Forget name); book = refl }
one_journal b j.List = asks b
one_journal b (j.Without serial) = record { given = (false, Without serial); book = refl }

one_prog : (b : PlainBook) (verdict : Verdict) (command : ProgCommand) → LeadsByOneEvent b (prog_done b verdict command).0
one_prog b verdict (p.Show prog) = asks b
one_prog b verdict (p.Dump prog) = asks b
one_prog b verdict (p.Pin prog path) = one_found b (pinning path (prog_named b prog)) None
one_prog b verdict (p.Load object path) = one_found b (loading path object verdict) None

one_net : (b : PlainBook) (command : NetCommand) → LeadsByOneEvent b (net_done b command).0
one_net b (n.Show device) = asks b
one_net b (n.Attach prog device overwrite) = one_found b (attaching device overwrite (prog_named b prog)) None
one_net b (n.Detach device) = one_found b (Ok (Detach device)) None

event_told : (b : PlainBook) (refused : Bool) (prog : ℕ) (access : Access) → LeadsByOneEvent b (told refused b prog access).0
event_told b true prog access = record { given = (true, Serve prog access); book = refl }
event_told b false prog access = record { given = (false, Serve prog access); book = refl }

event_stopped : (b : PlainBook) (refused : Bool) (at : Flow × State) → LeadsByOneEvent b (stopped refused b at).0
event_stopped b refused (Stop (outcome.Access access), s) = event_told b refused s.program.id access
event_stopped b refused (Stop (outcome.Done action), s) = asks b
event_stopped b refused (Stop (outcome.Abort reason), s) = asks b
event_stopped b refused (Next, s) = asks b

-- a step of a run is one event
pub one_step_of : (b : PlainBook) (refused : Bool) (run : State) → LeadsByOneEvent b (stepped refused b run).0
one_step_of b refused run = event_stopped b refused (advanced run)

one_step : (s : Console) (wants : List Bool) (number : ℕ) → LeadsByOneEvent s.book (run_step s wants number).0.book
one_step s wants number = by (run_of number s.runs.runs)
  where
    by : (run : Option (ℕ × State)) → LeadsByOneEvent s.book (step_at s (first_want wants) number run).0.book
    by None = asks s.book
    by (Some (place, run)) = one_step_of s.book (first_want wants) run

-- a start leaves the book
begins : (b : PlainBook) (device : List ℕ) → LeadsByOneEvent b b
begins b device = record { given = (false, Started device); book = refl }

one_started : (s : Console) (device : List ℕ) (run : Result (Option State) Fault) → LeadsByOneEvent s.book (run_started s run).0.book
one_started s device (Err why) = begins s.book device
one_started s device (Ok None) = begins s.book device
one_started s device (Ok (Some run)) = begins s.book device

one_start : (s : Console) (frame : Frame) → LeadsByOneEvent s.book (run_start s frame).0.book
one_start s frame =
    elim (are_full s.runs) as (λ (full : Bool). LeadsByOneEvent s.book (cond full (s, Refused RunsFull) (run_started s (run_on s.book frame))).0.book) [
      | true ↦ asks s.book
      | false ↦ one_started s frame.device (run_on s.book frame)
    ]

one_run : (s : Console) (wants : List Bool) (command : RunCommand) → LeadsByOneEvent s.book (run_done s wants command).0.book
one_run s wants (r.Start frame) = one_start s frame
one_run s wants (r.Step number) = one_step s wants number

one_command : (s : Console) (course : Course) (command : Command) (blank : Option Blank) → IsSingle command → LeadsByOneEvent s.book (command_done s course command blank).0.book
one_command s course (c.Map command) blank single = one_map s.book command blank
one_command s course (c.Prog command) blank single = one_prog s.book course.verdict command
one_command s course (c.Net command) blank single = one_net s.book command
one_command s course (c.Batch path) blank single = asks s.book
one_command s course (c.Unpin path) blank single = one_found s.book (Ok (Unpin path)) None
one_command s course (c.Frame frame) blank single = absurd single
one_command s course (c.Run command) blank single = one_run s course.wants command
one_command s course (c.Journal command) blank single = one_journal s.book command

-- if memory was refused to the command it is a question
unless_wanted : (s : Console) (refused : Bool) (done : Console × Answer) → LeadsByOneEvent s.book done.0.book → LeadsByOneEvent s.book (unless_refused refused s done).0.book
unless_wanted s true done one = asks s.book
unless_wanted s false done one = one

pub one_event : (s : Console) (course : Course) (command : Command) (blank : Option Blank) → IsOneEvent s course command blank
one_event s course command blank single =
    unless_wanted s course.refused (command_done s course command blank) (one_command s course command blank single)

-- ---- events
pub none : (b : PlainBook) → LeadsByEvents b b
none b = record { events = []; book = refl }

as_event : (b left : PlainBook) → LeadsByOneEvent b left → LeadsByEvents b left
as_event b left it = record { events = it.given ∷ []; book = it.book }

-- one list of events after another
pub after_both : (b mid left : PlainBook) → LeadsByEvents b mid → LeadsByEvents mid left → LeadsByEvents b left
after_both b mid left first rest = record {
  events = first.events ++ rest.events;
  book = rest.book ∙ ap (λ book. book_after book rest.events) first.book ∙ sym (book_after-append b first.events rest.events);
}

-- accesses of programs are events
as_events : (b left : PlainBook) → LeadsByAccesses b left → LeadsByEvents b left
as_events b left it = record { events = it.accesses; book = it.book }

all_both : (first rest : List Given) → AllByRecursion IsAccess first → AllByRecursion IsAccess rest → AllByRecursion IsAccess (first ++ rest)
all_both [] rest here later = later
all_both (access ∷ first) rest here later = (here.0, all_both first rest here.1 later)

accesses_both : (b mid left : PlainBook) → LeadsByAccesses b mid → LeadsByAccesses mid left → LeadsByAccesses b left
accesses_both b mid left first rest = record {
  accesses = first.accesses ++ rest.accesses;
  all = all_both first.accesses rest.accesses first.all rest.all;
  book = rest.book ∙ ap (λ book. book_after book rest.accesses) first.book ∙ sym (book_after-append b first.accesses rest.accesses);
}

abbrev OneAtMost : PlainBook → PlainBook → Type 0
OneAtMost b left = (it : LeadsByAccesses b left) × (length it.accesses ≤ 1)

none_at_most : (b : PlainBook) → OneAtMost b b
none_at_most b = (record { accesses = []; all = tt; book = refl }, omega arith)

no_access : (b : PlainBook) → LeadsByAccesses b b
no_access b = (none_at_most b).0

one_told : (b : PlainBook) (refused : Bool) (prog : ℕ) (access : Access) → OneAtMost b (told refused b prog access).0
one_told b true prog access = (record { accesses = (true, Serve prog access) ∷ []; all = (tt, tt); book = refl }, omega arith)
one_told b false prog access = (record { accesses = (false, Serve prog access) ∷ []; all = (tt, tt); book = refl }, omega arith)

one_stopped : (b : PlainBook) (refused : Bool) (at : Flow × State) → OneAtMost b (stopped refused b at).0
one_stopped b refused (Stop (outcome.Access access), s) = one_told b refused s.program.id access
one_stopped b refused (Stop (outcome.Done action), s) = none_at_most b
one_stopped b refused (Stop (outcome.Abort reason), s) = none_at_most b
one_stopped b refused (Next, s) = none_at_most b

framed_on : (b : PlainBook) (wants : List Bool) (does : PlainBook × State × Option End) → LeadsByAccesses b does.0 →
    ((left : PlainBook) (onward : State) → LeadsByAccesses left (framed wants left onward).0) → LeadsByAccesses b (unless_ended does (framed wants)).0
framed_on b wants (left, onward, Some end) first rest = first
framed_on b wants (left, onward, None) first rest = accesses_both b left (framed wants left onward).0 first (rest left onward)

by_framed : (wants : List Bool) (b : PlainBook) (s : State) → LeadsByAccesses b (framed wants b s).0
by_framed [] b s = no_access b
by_framed (refused ∷ wants) b s = framed_on b wants (stepped refused b s) (one_stopped b refused (advanced s)).0 (λ left onward. by_framed wants left onward)

by_run_on : (b : PlainBook) (wants : List Bool) (run : Result (Option State) Fault) → LeadsByAccesses b (frame_from b wants run).0
by_run_on b wants (Err why) = no_access b
by_run_on b wants (Ok None) = no_access b
by_run_on b wants (Ok (Some s)) = by (framed wants b s) (by_framed wants b s)
  where
    by : (does : PlainBook × Option End) → LeadsByAccesses b does.0 → LeadsByAccesses b (frame_answer b does).0
    by (left, Some end) accesses = accesses
    by (left, None) accesses = no_access b

pub by_frame : (b : PlainBook) (wants : List Bool) (frame : Frame) → IsStartAndAccesses b wants frame
by_frame b wants frame = by_run_on b wants (run_on b frame)

pub by_step : (c : Console) (wants : List Bool) (number : ℕ) → IsOneAccessAtMost c wants number
by_step c wants number = by (run_of number c.runs.runs)
  where
    by : (run : Option (ℕ × State)) → OneAtMost c.book (step_at c (first_want wants) number run).0.book
    by None = none_at_most c.book
    by (Some (place, s)) = one_stopped c.book (first_want wants) (advanced s)

-- a start is an event
by_begun : (b left : PlainBook) (device : List ℕ) → LeadsByEvents b left → LeadsByEvents b left
by_begun b left device rest = after_both b b left (record { events = (false, Started device) ∷ []; book = refl }) rest

by_command : (s : Console) (course : Course) (command : Command) (blank : Option Blank) → LeadsByEvents s.book (command_done s course command blank).0.book
by_command s course (c.Map command) blank = as_event s.book (map_done s.book command blank).0 (one_map s.book command blank)
by_command s course (c.Prog command) blank = as_event s.book (prog_done s.book course.verdict command).0 (one_prog s.book course.verdict command)
by_command s course (c.Net command) blank = as_event s.book (net_done s.book command).0 (one_net s.book command)
by_command s course (c.Batch path) blank = none s.book
by_command s course (c.Unpin path) blank = as_event s.book (recorded_if s.book (Ok (Unpin path)) None).0 (one_found s.book (Ok (Unpin path)) None)
by_command s course (c.Frame frame) blank = by_begun s.book (frame_done s.book course.wants frame).0 frame.device (as_events s.book (frame_done s.book course.wants frame).0 (by_frame s.book course.wants frame))
by_command s course (c.Run command) blank = as_event s.book (run_done s course.wants command).0.book (one_run s course.wants command)
by_command s course (c.Journal command) blank = as_event s.book (journal_done s.book command).0 (one_journal s.book command)

by_read : (s : Console) (course : Course) (blank : Option Blank) (found : Result (Option Command) SyntaxFault) → LeadsByEvents s.book (read_done s course blank found).0.book
by_read s course blank (Ok None) = none s.book
by_read s course blank (Ok (Some command)) = by_command s course command blank
by_read s course blank (Err why) = none s.book

pub by_line : (files : List FileText) (s : Console) (course : Course) (blank : Option Blank) (line : List ℕ) → LeadsByEvents s.book (line_done files course s blank line).0.book
by_line files s course blank line =
    elim (course.refused && takes_memory line) as (λ (no_memory : Bool). LeadsByEvents s.book (cond no_memory (s, Some (Refused NoMemory)) (read_done s course blank (with_files files (line_read line)))).0.book) [
      | true ↦ none s.book
      | false ↦ by_read s course blank (with_files files (line_read line))
    ]
