-- Lines that are refused.
use Rattle.std.proofs.Common.{◌≡◌, ℕ, Bool, true, false, cond, List, refl, ap, Option, Some, None, Result, Ok, Err}
use Rattle.std.specs.Prelude.{◌&&◌, is_err}
use Rattle.host_state.specs.declared.change.Change.{Change}
use Rattle.host_state.specs.declared.change.Change.TheVariants.{Unpin, Detach}
use Rattle.host_state.specs.declared.reply.Reply.{Reply}
use Rattle.host_state.specs.declared.reply.Refusal.{Refusal}
use Rattle.journal_model.specs.declared.faults.ForgetFault.{ForgetFault}
use Rattle.journal_model.specs.declared.faults.MarkFault.{MarkFault}
use Rattle.journal_model.specs.declared.faults.NothingToUndo.{NothingToUndo}
use Rattle.journal_model.specs.declared.faults.RedoFault.{RedoFault}
use Rattle.journal_model.specs.declared.faults.UndoFault.{UndoFault}
use Rattle.journal_model.specs.declared.faults.WithoutFault.{WithoutFault}
use Rattle.bt_interp.specs.Runs.{State}
use Rattle.journal_model.specs.Blank.{Blank}
use Rattle.journal_model.specs.Book.{PlainBook, recorded, marked, undone_to, undone_last, redone}
use Rattle.journal_model.specs.Forget.{forgotten}
use Rattle.journal_model.specs.Without.{taken_out}
use Rattle.journal_model.specs.Run.{Record, Mark, UndoTo, UndoLast, Redo, Forget, Without}
use Rattle.journal_laws.proofs.Refusing.{changes_nothing}
use Rattle.bt_syntax.specs.Steps.{line_read}
use Rattle.bt_syntax.specs.declared.files.FileText.{FileText}
use Rattle.bt_syntax.specs.declared.fault.SyntaxFault.{SyntaxFault}
use Rattle.console_operand.specs.declared.reference.Reference.{Reference}
use Rattle.console_map_syntax.specs.declared.command.UpdateFlag.TheVariants.{Any}
use Rattle.console_map_syntax.specs.declared.command.MapCommand.{MapCommand}
use Rattle.console_map_syntax.specs.declared.command.MapCommand.TheVariants as m
use Rattle.bt_console.specs.declared.edit.Edit.{Edit}
use Rattle.bt_console.specs.declared.edit.Edit.TheVariants as edit
use Rattle.bt_syntax.specs.declared.prog.command.ProgCommand.{ProgCommand}
use Rattle.bt_syntax.specs.declared.prog.command.ProgCommand.TheVariants as p
use Rattle.bt_syntax.specs.declared.net.command.NetCommand.{NetCommand}
use Rattle.bt_syntax.specs.declared.net.command.NetCommand.TheVariants as n
use Rattle.bt_syntax.specs.declared.journal.JournalCommand.{JournalCommand}
use Rattle.bt_syntax.specs.declared.journal.JournalCommand.TheVariants as j
use Rattle.bt_syntax.specs.declared.frame.Frame.{Frame}
use Rattle.bt_syntax.specs.declared.run.RunCommand.{RunCommand}
use Rattle.bt_syntax.specs.declared.run.RunCommand.TheVariants as r
use Rattle.bt_syntax.specs.declared.command.Command.{Command}
use Rattle.bt_syntax.specs.declared.command.Command.TheVariants as c
use Rattle.console_answer.specs.Answers.{mark_answer, undo_answer, undo_last_answer, redo_answer, forgot_answer, taken_out_answer}
use Rattle.console_reference.specs.References.{map_named, prog_named, template_named}
use Rattle.console_reference.specs.Programs.{Verdict}
use Rattle.bt_console.specs.Frames.{Console, console_of, on_book, stepped, framed, run_on, frame_from, frame_answer, frame_done, are_full, run_started, run_start, run_of, run_stepped, run_told, step_answer, step_at, first_want}
use Rattle.bt_interp.specs.declared.end.End.{End}
use Rattle.bt_console.specs.Commands.{making, change_at, changed, recorded_if, changed_at, map_done, pinning, loading, prog_done, attaching, net_done, journal_done, run_done, command_done, Course}
use Rattle.bt_console.specs.Lines.{takes_memory, with_files, read_done}
use Rattle.bt_console.specs.Laws.{RefusedChangesNothing}
use Rattle.console_answer.specs.declared.answer.Answer.{Answer}
use Rattle.console_answer.specs.declared.answer.Answer.TheVariants.{Refused}
use Rattle.console_answer.specs.declared.fault.Fault.{Fault}
use Rattle.console_answer.specs.declared.fault.Fault.TheVariants.{NoMemory, RunsFull}

-- what is refused leaves the book
abbrev pub Leaves : PlainBook → PlainBook × Answer → Type 0
Leaves b done = (fault : Fault) → done.1 ≡ Refused fault → done.0 ≡ b

left_by_change : (b : PlainBook) (done : PlainBook × Result (ℕ × Reply) Refusal) → (is_err done.1 ≡ true → done.0 ≡ b) → Leaves b (changed done)
left_by_change b (left, Ok it) h fault e = absurd (cc)
left_by_change b (left, Err why) h fault e = h refl

left_by_mark : (b : PlainBook) (name : List ℕ) (done : PlainBook × Result (Unit {0}) MarkFault) → (is_err done.1 ≡ true → done.0 ≡ b) → Leaves b (done.0, mark_answer name done.1)
left_by_mark b name (left, Ok it) h fault e = absurd (cc)
left_by_mark b name (left, Err why) h fault e = h refl

left_by_undo : (b : PlainBook) (done : PlainBook × Result ℕ UndoFault) → (is_err done.1 ≡ true → done.0 ≡ b) → Leaves b (done.0, undo_answer done.1)
left_by_undo b (left, Ok it) h fault e = absurd (cc)
left_by_undo b (left, Err why) h fault e = h refl

left_by_undo_last : (b : PlainBook) (done : PlainBook × Result (Unit {0}) NothingToUndo) → (is_err done.1 ≡ true → done.0 ≡ b) → Leaves b (done.0, undo_last_answer done.1)
left_by_undo_last b (left, Ok it) h fault e = absurd (cc)
left_by_undo_last b (left, Err why) h fault e = h refl

left_by_redo : (b : PlainBook) (done : PlainBook × Result (Unit {0}) RedoFault) → (is_err done.1 ≡ true → done.0 ≡ b) → Leaves b (done.0, redo_answer done.1)
left_by_redo b (left, Ok it) h fault e = absurd (cc)
left_by_redo b (left, Err why) h fault e = h refl

left_by_forgetting : (b : PlainBook) (name : List ℕ) (done : PlainBook × Result (Unit {0}) ForgetFault) → (is_err done.1 ≡ true → done.0 ≡ b) → Leaves b (done.0, forgot_answer name done.1)
left_by_forgetting b name (left, Ok it) h fault e = absurd (cc)
left_by_forgetting b name (left, Err why) h fault e = h refl

left_by_taking_out : (b : PlainBook) (done : PlainBook × Result ℕ WithoutFault) → (is_err done.1 ≡ true → done.0 ≡ b) → Leaves b (done.0, taken_out_answer done.1)
left_by_taking_out b (left, Ok it) h fault e = absurd (cc)
left_by_taking_out b (left, Err why) h fault e = h refl

left_by_found : (b : PlainBook) (change : Result Change Fault) (blank : Option Blank) → Leaves b (recorded_if b change blank)
left_by_found b (Err why) blank fault e = refl
left_by_found b (Ok it) blank fault e = left_by_change b (recorded b it blank) (changes_nothing b false (Record it blank)) fault e

left_by_edit : (b : PlainBook) (map : Reference (List ℕ)) (edit : Edit) → Leaves b (changed_at b map edit)
left_by_edit b map edit = left_by_found b (change_at b (map_named b map) edit) None

left_by_map : (b : PlainBook) (command : MapCommand) (blank : Option Blank) → Leaves b (map_done b command blank)
left_by_map b (m.Show None) blank = λ fault e. refl
left_by_map b (m.Show (Some map)) blank = λ fault e. refl
left_by_map b (m.Create path attr name inner_map) blank = left_by_found b (making path attr name (template_named b inner_map)) blank
left_by_map b (m.Dump map) blank = λ fault e. refl
left_by_map b (m.Update map key value flag) blank = left_by_edit b map (edit.Write key value flag)
left_by_map b (m.Lookup map key) blank = λ fault e. refl
left_by_map b (m.GetNext map key) blank = λ fault e. refl
left_by_map b (m.Delete map key) blank = left_by_edit b map (edit.Delete key)
left_by_map b (m.Peek map) blank = λ fault e. refl
left_by_map b (m.Push map value) blank = left_by_edit b map (edit.Write None value Any)
left_by_map b (m.Pop map) blank = left_by_edit b map edit.Pop
left_by_map b (m.Freeze map) blank = left_by_edit b map edit.Freeze
left_by_map b (m.Pin map path) blank = left_by_edit b map (edit.Pin path)

left_by_journal : (b : PlainBook) (command : JournalCommand) → Leaves b (journal_done b command)
left_by_journal b (j.Mark name) = left_by_mark b name (marked b name) (changes_nothing b false (Mark name))
left_by_journal b (j.Undo None) = left_by_undo_last b (undone_last b) (changes_nothing b false UndoLast)
left_by_journal b (j.Undo (Some name)) = left_by_undo b (undone_to b name) (changes_nothing b false (UndoTo name))
left_by_journal b j.Redo = left_by_redo b (redone b) (changes_nothing b false Redo)
left_by_journal b (j.Forget name) = left_by_forgetting b name (forgotten b name) (changes_nothing b false (Forget name))
left_by_journal b j.List = λ fault e. refl
left_by_journal b (j.Without serial) = left_by_taking_out b (taken_out b serial) (changes_nothing b false (Without serial))

left_by_prog : (b : PlainBook) (verdict : Verdict) (command : ProgCommand) → Leaves b (prog_done b verdict command)
left_by_prog b verdict (p.Show prog) = λ fault e. refl
left_by_prog b verdict (p.Dump prog) = λ fault e. refl
left_by_prog b verdict (p.Pin prog path) = left_by_found b (pinning path (prog_named b prog)) None
left_by_prog b verdict (p.Load object path) = left_by_found b (loading path object verdict) None

left_by_net : (b : PlainBook) (command : NetCommand) → Leaves b (net_done b command)
left_by_net b (n.Show device) = λ fault e. refl
left_by_net b (n.Attach prog device overwrite) = left_by_found b (attaching device overwrite (prog_named b prog)) None
left_by_net b (n.Detach device) = left_by_found b (Ok (Detach device)) None

left_by_frame : (b : PlainBook) (wants : List Bool) (run : Result (Option State) Fault) → Leaves b (frame_from b wants run)
left_by_frame b wants (Err why) fault e = refl
left_by_frame b wants (Ok None) fault e = absurd (cc)
left_by_frame b wants (Ok (Some s)) fault e = by (framed wants b s) fault e
  where
    by : (does : PlainBook × Option End) → Leaves b (frame_answer b does)
    by (left, Some end) fault e = absurd (cc)
    by (left, None) fault e = refl

-- the same of a console
abbrev pub LeavesAll : Console → Console × Answer → Type 0
LeavesAll c done = (fault : Fault) → done.1 ≡ Refused fault → done.0 ≡ c

left_on_book : (c : Console) (done : PlainBook × Answer) → Leaves c.book done → LeavesAll c (on_book c done)
left_on_book c done leaves fault e = ap (λ b. console_of b c.runs) (leaves fault e)

left_by_started : (c : Console) (run : Result (Option State) Fault) → LeavesAll c (run_started c run)
left_by_started c (Err why) fault e = refl
left_by_started c (Ok None) fault e = refl
left_by_started c (Ok (Some s)) fault e = absurd (cc)

left_by_start : (c : Console) (frame : Frame) → LeavesAll c (run_start c frame)
left_by_start c frame =
    elim (are_full c.runs) as (λ (full : Bool). LeavesAll c (cond full (c, Refused RunsFull) (run_started c (run_on c.book frame)))) [
      | true ↦ (λ fault e. refl)
      | false ↦ left_by_started c (run_on c.book frame)
    ]

left_by_step : (c : Console) (refused : Bool) (number : ℕ) (run : Option (ℕ × State)) → LeavesAll c (step_at c refused number run)
left_by_step c refused number None fault e = refl
left_by_step c refused number (Some (place, s)) fault e = by (run_stepped c.runs place number (stepped refused c.book s)).2 e
  where
    by : (end : Option End) → step_answer number end ≡ Refused fault → (run_told number (run_stepped c.runs place number (stepped refused c.book s))).0 ≡ c
    by None e = absurd (cc)
    by (Some end) e = absurd (cc)

left_by_run : (c : Console) (wants : List Bool) (command : RunCommand) → LeavesAll c (run_done c wants command)
left_by_run c wants (r.Start frame) = left_by_start c frame
left_by_run c wants (r.Step number) = left_by_step c (first_want wants) number (run_of number c.runs.runs)

left_by_command : (c : Console) (course : Course) (command : Command) (blank : Option Blank) → LeavesAll c (command_done c course command blank)
left_by_command s course (c.Map command) blank = left_on_book s (map_done s.book command blank) (left_by_map s.book command blank)
left_by_command s course (c.Prog command) blank = left_on_book s (prog_done s.book course.verdict command) (left_by_prog s.book course.verdict command)
left_by_command s course (c.Net command) blank = left_on_book s (net_done s.book command) (left_by_net s.book command)
left_by_command s course (c.Batch path) blank = (λ fault e. refl)
left_by_command s course (c.Unpin path) blank = left_on_book s (changed (recorded s.book (Unpin path) None)) (left_by_found s.book (Ok (Unpin path)) None)
left_by_command s course (c.Frame frame) blank = left_on_book s (frame_done s.book course.wants frame) (left_by_frame s.book course.wants (run_on s.book frame))
left_by_command s course (c.Run command) blank = left_by_run s course.wants command
left_by_command s course (c.Journal command) blank = left_on_book s (journal_done s.book command) (left_by_journal s.book command)

-- the same of a line
abbrev pub LeavesLine : Console → Console × Option Answer → Type 0
LeavesLine s done = (fault : Fault) → done.1 ≡ Some (Refused fault) → done.0 ≡ s

left_by_read : (s : Console) (course : Course) (blank : Option Blank) (found : Result (Option Command) SyntaxFault) → LeavesLine s (read_done s course blank found)
left_by_read s course blank (Ok None) fault e = refl
left_by_read s course blank (Ok (Some command)) fault e = left_by_command s course command blank fault (cc)
left_by_read s course blank (Err why) fault e = refl

pub left_by_line : (files : List FileText) (s : Console) (course : Course) (blank : Option Blank) (line : List ℕ) → RefusedChangesNothing files s course blank line
left_by_line files s course blank line =
    elim (course.refused && takes_memory line) as (λ (no_memory : Bool). LeavesLine s (cond no_memory (s, Some (Refused NoMemory)) (read_done s course blank (with_files files (line_read line))))) [
      | true ↦ (λ fault e. refl)
      | false ↦ left_by_read s course blank (with_files files (line_read line))
    ]
