-- Lines that are no moves of the journal lead by events that are none.
use Rattle.std.proofs.Common.{◌≡◌, ℕ, ◌+◌, length, Bool, true, false, cond, List, [], ◌∷◌, refl, sym, ap, subst, ◌∙◌, Option, Some, None, Result, Ok, Err}
use Rattle.std.specs.List.{AllByRecursion}
use Rattle.bt_interp.specs.Runs.{State}
use Rattle.host_state.specs.declared.change.Change.{Change}
use Rattle.host_state.specs.declared.change.Change.TheVariants.{Unpin, Detach}
use Rattle.journal_model.specs.Blank.{Blank}
use Rattle.journal_model.specs.Book.{PlainBook}
use Rattle.journal_model.specs.Run.{PlainEvent, Record, ListAll, Ask, Start, Serve, Given, bookstep, book_after}
use Rattle.journal_model.specs.Well.{IsWellBook}
use Rattle.console_operand.specs.declared.reference.Reference.{Reference}
use Rattle.console_map_syntax.specs.declared.command.UpdateFlag.TheVariants.{Any}
use Rattle.console_map_syntax.specs.declared.command.MapCommand.{MapCommand}
use Rattle.console_map_syntax.specs.declared.command.MapCommand.TheVariants as m
use Rattle.bt_syntax.specs.declared.prog.command.ProgCommand.{ProgCommand}
use Rattle.bt_syntax.specs.declared.prog.command.ProgCommand.TheVariants as p
use Rattle.bt_syntax.specs.declared.net.command.NetCommand.{NetCommand}
use Rattle.bt_syntax.specs.declared.net.command.NetCommand.TheVariants as n
use Rattle.bt_syntax.specs.declared.frame.Frame.{Frame}
use Rattle.bt_syntax.specs.declared.run.RunCommand.{RunCommand}
use Rattle.bt_syntax.specs.declared.run.RunCommand.TheVariants as r
use Rattle.bt_syntax.specs.declared.command.Command.{Command}
use Rattle.bt_syntax.specs.declared.command.Command.TheVariants as c
use Rattle.console_reference.specs.References.{map_named, prog_named, template_named}
use Rattle.console_reference.specs.Programs.{Verdict}
use Rattle.console_answer.specs.declared.answer.Answer.TheVariants.{Refused}
use Rattle.console_answer.specs.declared.fault.Fault.{Fault}
use Rattle.console_answer.specs.declared.fault.Fault.TheVariants.{RunsFull}
use Rattle.bt_console.specs.declared.edit.Edit.{Edit}
use Rattle.bt_console.specs.declared.edit.Edit.TheVariants as edit
use Rattle.bt_console.specs.Frames.{Console, run_on, frame_done, are_full, run_started, run_start, run_step}
use Rattle.bt_console.specs.Commands.{making, change_at, recorded_if, changed_at, map_done, pinning, loading, prog_done, attaching, net_done, run_done, command_done, Course}
use Rattle.bt_console.specs.Laws.{IsAccess, LeadsByAccesses}
use Rattle.bt_console.proofs.Evented.{by_frame, by_step}
use Rattle.kept_event.specs.declared.event.KeptEvent.{KeptEvent}
use Rattle.kept_book.specs.Leading.{LeadTo}
use Rattle.kept_book.specs.Noted.{accepts_move, changes_since}
use Rattle.kept_book.specs.Laws.{NoneMoves}
use Rattle.kept_book.proofs.GrownLemmas.{changes_lead}
use Rattle.kept_lines.specs.Noting.{AreChanges}

-- an event that is no move of the journal
abbrev pub IsNoMove : Given → Type 0
IsNoMove (refused, Record change blank) = Unit {0}
IsNoMove (refused, ListAll) = Unit {0}
IsNoMove (refused, Ask question) = Unit {0}
IsNoMove (refused, Start device) = Unit {0}
IsNoMove (refused, Serve prog access) = Unit {0}
IsNoMove _ = ⊥

-- such events lead from the first book to the second
pub record LeadsQuietly (b left : PlainBook) : Type 0 where
  pub events : List Given
  pub quiet : AllByRecursion IsNoMove events
  pub book : left ≡ book_after b events

no_move : (b : PlainBook) (refused : Bool) (event : PlainEvent) → IsNoMove (refused, event) → accepts_move (bookstep refused b event).1 ≡ false
no_move b refused (Record change blank) quiet = refl
no_move b refused ListAll quiet = refl
no_move b refused (Ask question) quiet = refl
no_move b refused (Start device) quiet = refl
no_move b refused (Serve prog access) quiet = refl
no_move b refused _ quiet = absurd quiet

none_moves : (b : PlainBook) (events : List Given) → AllByRecursion IsNoMove events → NoneMoves b events
none_moves b [] quiet = tt
none_moves b (given ∷ events) quiet = (no_move b given.0 given.1 quiet.0, none_moves (bookstep given.0 b given.1).0 events quiet.1)

-- so the changes that are noted lead
pub quiet_lead : (b left : PlainBook) (noted : List KeptEvent) → IsWellBook b → LeadsQuietly b left → AreChanges b.last_serial left noted → LeadTo b noted left
quiet_lead b left noted well it changes =
    let c : PlainBook = book_after b it.events in
    let same : noted ≡ changes_since b.last_serial c = changes.0 ∙ ap (changes_since b.last_serial) it.book in
    let count : b.last_serial + length (changes_since b.last_serial c) ≡ c.last_serial =
    ap (λ (es : List KeptEvent). b.last_serial + length es) (sym same) ∙ changes.1 ∙ ap (λ (x : PlainBook). x.last_serial) it.book in
    let lead : LeadTo b (changes_since b.last_serial c) c = changes_lead b it.events well (none_moves b it.events it.quiet) count in
    subst (λ (x : PlainBook). LeadTo b noted x) (sym it.book) (subst (λ es. LeadTo b es c) (sym same) lead)

-- ---- each command
pub quiet_none : (b : PlainBook) → LeadsQuietly b b
quiet_none b = record { events = []; quiet = tt; book = refl }

quiet_found : (b : PlainBook) (change : Result Change Fault) (blank : Option Blank) → LeadsQuietly b (recorded_if b change blank).0
quiet_found b (Err why) blank = quiet_none b
quiet_found b (Ok it) blank = record { events = (false, Record it blank) ∷ []; quiet = (tt, tt); book = refl }

quiet_edit : (b : PlainBook) (map : Reference (List ℕ)) (edit : Edit) → LeadsQuietly b (changed_at b map edit).0
quiet_edit b map edit = quiet_found b (change_at b (map_named b map) edit) None

quiet_map : (b : PlainBook) (command : MapCommand) (blank : Option Blank) → LeadsQuietly b (map_done b command blank).0
quiet_map b (m.Show None) blank = quiet_none b
quiet_map b (m.Show (Some map)) blank = quiet_none b
quiet_map b (m.Create path attr name inner_map) blank = quiet_found b (making path attr name (template_named b inner_map)) blank
quiet_map b (m.Dump map) blank = quiet_none b
quiet_map b (m.Update map key value flag) blank = quiet_edit b map (edit.Write key value flag)
quiet_map b (m.Lookup map key) blank = quiet_none b
quiet_map b (m.GetNext map key) blank = quiet_none b
quiet_map b (m.Delete map key) blank = quiet_edit b map (edit.Delete key)
quiet_map b (m.Peek map) blank = quiet_none b
quiet_map b (m.Push map value) blank = quiet_edit b map (edit.Write None value Any)
quiet_map b (m.Pop map) blank = quiet_edit b map edit.Pop
quiet_map b (m.Freeze map) blank = quiet_edit b map edit.Freeze
quiet_map b (m.Pin map path) blank = quiet_edit b map (edit.Pin path)

quiet_prog : (b : PlainBook) (verdict : Verdict) (command : ProgCommand) → LeadsQuietly b (prog_done b verdict command).0
quiet_prog b verdict (p.Show prog) = quiet_none b
quiet_prog b verdict (p.Dump prog) = quiet_none b
quiet_prog b verdict (p.Pin prog path) = quiet_found b (pinning path (prog_named b prog)) None
quiet_prog b verdict (p.Load object path) = quiet_found b (loading path object verdict) None

quiet_net : (b : PlainBook) (command : NetCommand) → LeadsQuietly b (net_done b command).0
quiet_net b (n.Show device) = quiet_none b
quiet_net b (n.Attach prog device overwrite) = quiet_found b (attaching device overwrite (prog_named b prog)) None
quiet_net b (n.Detach device) = quiet_found b (Ok (Detach device)) None

access_quiet : (given : Given) → IsAccess given → IsNoMove given
access_quiet (refused, Serve prog access) h = tt
access_quiet (refused, _) h = absurd h

accesses_quiet : (events : List Given) → AllByRecursion IsAccess events → AllByRecursion IsNoMove events
accesses_quiet [] h = tt
accesses_quiet (given ∷ events) h = (access_quiet given h.0, accesses_quiet events h.1)

by_accesses : (b left : PlainBook) → LeadsByAccesses b left → LeadsQuietly b left
by_accesses b left it = record { events = it.accesses; quiet = accesses_quiet it.accesses it.all; book = it.book }

quiet_started : (s : Console) (run : Result (Option State) Fault) → LeadsQuietly s.book (run_started s run).0.book
quiet_started s (Err why) = quiet_none s.book
quiet_started s (Ok None) = quiet_none s.book
quiet_started s (Ok (Some run)) = quiet_none s.book

quiet_start : (s : Console) (frame : Frame) → LeadsQuietly s.book (run_start s frame).0.book
quiet_start s frame =
    elim (are_full s.runs) as (λ (full : Bool). LeadsQuietly s.book (cond full (s, Refused RunsFull) (run_started s (run_on s.book frame))).0.book) [
      | true ↦ quiet_none s.book
      | false ↦ quiet_started s (run_on s.book frame)
    ]

quiet_run : (s : Console) (wants : List Bool) (command : RunCommand) → LeadsQuietly s.book (run_done s wants command).0.book
quiet_run s wants (r.Start frame) = quiet_start s frame
quiet_run s wants (r.Step number) = by_accesses s.book (run_step s wants number).0.book (by_step s wants number).0

-- a command that is none on the journal
abbrev pub IsNoJournal : Command → Type 0
IsNoJournal (c.Journal command) = ⊥
IsNoJournal _ = Unit {0}

pub quiet_command : (s : Console) (course : Course) (command : Command) (blank : Option Blank) → IsNoJournal command → LeadsQuietly s.book (command_done s course command blank).0.book
quiet_command s course (c.Map command) blank none = quiet_map s.book command blank
quiet_command s course (c.Prog command) blank none = quiet_prog s.book course.verdict command
quiet_command s course (c.Net command) blank none = quiet_net s.book command
quiet_command s course (c.Batch path) blank none = quiet_none s.book
quiet_command s course (c.Unpin path) blank none = quiet_found s.book (Ok (Unpin path)) None
quiet_command s course (c.Frame frame) blank none = by_accesses s.book (frame_done s.book course.wants frame).0 (by_frame s.book course.wants frame)
quiet_command s course (c.Run command) blank none = quiet_run s course.wants command
quiet_command s course (c.Journal command) blank none = absurd none
