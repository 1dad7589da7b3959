-- What is noted of a line leads from the book before it to the one after it.
use Rattle.std.proofs.Common.{◌≡◌, ℕ, Bool, true, false, cond, List, [], refl, sym, ap, subst, ◌∙◌, Option, Some, None, Result, Ok, Err}
use Rattle.std.specs.Prelude.{◌&&◌, is_ok}
use Rattle.std.proofs.lemmas.Bool.{eq-eqb}
use Rattle.host_state.specs.State.{State}
use Rattle.journal_model.specs.declared.faults.ForgetFault.{ForgetFault}
use Rattle.journal_model.specs.declared.faults.MarkFault.{MarkFault}
use Rattle.journal_model.specs.declared.faults.NothingToUndo.{NothingToUndo}
use Rattle.journal_model.specs.declared.faults.RedoFault.{RedoFault}
use Rattle.journal_model.specs.declared.faults.UndoFault.{UndoFault}
use Rattle.journal_model.specs.declared.faults.WithoutFault.{WithoutFault}
use Rattle.journal_model.specs.Blank.{Blank}
use Rattle.journal_model.specs.Book.{PlainBook, marked, undone_to, undone_last, redone}
use Rattle.journal_model.specs.Forget.{forgotten}
use Rattle.journal_model.specs.Force.{without}
use Rattle.journal_model.specs.Plain.{newest_force}
use Rattle.journal_model.specs.Replay.{Entry, replay}
use Rattle.journal_model.specs.Without.{taken_out, taken_out_as, taken_out_unless, without_fault, with_taken_out}
use Rattle.journal_model.specs.Well.{IsWellBook}
use Rattle.journal_invariant.proofs.Windowed.{same_serial}
use Rattle.bt_syntax.specs.Files.{opened}
use Rattle.bt_syntax.specs.Steps.{line_read}
use Rattle.bt_syntax.specs.declared.files.FileText.{FileText}
use Rattle.bt_syntax.specs.declared.fault.SyntaxFault.{SyntaxFault}
use Rattle.bt_syntax.specs.declared.journal.JournalCommand.{JournalCommand}
use Rattle.bt_syntax.specs.declared.journal.JournalCommand.TheVariants as j
use Rattle.bt_syntax.specs.declared.command.Command.{Command}
use Rattle.bt_syntax.specs.declared.command.Command.TheVariants as c
use Rattle.console_answer.specs.declared.answer.Answer.{Answer}
use Rattle.console_answer.specs.declared.answer.Answer.TheVariants.{Refused}
use Rattle.console_answer.specs.declared.fault.Fault.{Fault}
use Rattle.console_answer.specs.declared.fault.Fault.TheVariants.{NoMemory}
use Rattle.console_answer.specs.declared.fault.Fault.TheVariants as fault
use Rattle.console_answer.specs.declared.told.Told.{Told}
use Rattle.console_answer.specs.declared.told.Told.TheVariants as told
use Rattle.console_answer.specs.Told.{told_of}
use Rattle.console_answer.specs.Answers.{mark_fault_of, undo_fault_of, redo_fault_of, forget_fault_of, without_fault_of, mark_answer, undo_answer, undo_last_answer, redo_answer, forgot_answer, taken_out_answer}
use Rattle.bt_console.specs.Frames.{Console}
use Rattle.bt_console.specs.Commands.{Course, journal_done}
use Rattle.bt_console.specs.Lines.{takes_memory, with_files, read_done, line_done}
use Rattle.bt_console.proofs.Refused.{left_by_line}
use Rattle.kept_event.specs.declared.event.KeptEvent.{KeptEvent}
use Rattle.kept_event.specs.declared.event.KeptEvent.TheVariants as kept
use Rattle.kept_book.specs.Leading.{is_taken_out_as, LeadTo}
use Rattle.kept_lines.specs.Noting.{move_of, move_in, AreChanges, IsNoted}
use Rattle.kept_lines.proofs.Quiet.{quiet_lead, quiet_none, quiet_command}

-- a line that was refused, or asked for no move
not_accepted : (event : Option KeptEvent) (fault : Fault) (since : ℕ) (b : PlainBook) (noted : List KeptEvent) → IsNoted event (told.Refused fault) since b noted → AreChanges since b noted
not_accepted None fault since b noted h = h
not_accepted (Some event) fault since b noted h = h

pub refused_leads : (event : Option KeptEvent) (fault : Fault) (b : PlainBook) (noted : List KeptEvent) → IsWellBook b → IsNoted event (told.Refused fault) b.last_serial b noted → LeadTo b noted b
refused_leads event fault b noted well h = quiet_lead b b noted well (quiet_none b) (not_accepted event fault b.last_serial b noted h)

-- if the book stays
stays_lead : (b c : PlainBook) (noted : List KeptEvent) → IsWellBook b → c ≡ b → AreChanges b.last_serial c noted → LeadTo b noted c
stays_lead b c noted well same changes = quiet_lead b c noted well (record { events = []; quiet = tt; book = same }) changes

-- a refused answer leaves the book
abbrev Leaves : PlainBook → PlainBook → Answer → Type 0
Leaves b c it = (fault : Fault) → it ≡ Refused fault → c ≡ b

module _ (b : PlainBook) (well : IsWellBook b) (c : PlainBook) (noted : List KeptEvent) where
  mark_leads : (name : List ℕ) (r : Result (Unit {0}) MarkFault) → marked b name ≡ (c, r) → IsNoted (Some (kept.Marked name)) (told_of (Some (mark_answer name r))) b.last_serial c noted → Leaves b c (mark_answer name r) → LeadTo b noted c
  mark_leads name (Ok made) e h leaves = subst (λ es. LeadTo b es c) (sym h) (ap (λ (m : PlainBook × Result (Unit {0}) MarkFault). is_ok m.1) e, ap (λ (m : PlainBook × Result (Unit {0}) MarkFault). m.0) e)
  mark_leads name (Err why) e h leaves = stays_lead b c noted well (leaves (mark_fault_of why) refl) h

  undo_leads : (name : List ℕ) (r : Result ℕ UndoFault) → undone_to b name ≡ (c, r) → IsNoted (Some (kept.UndoneTo name)) (told_of (Some (undo_answer r))) b.last_serial c noted → Leaves b c (undo_answer r) → LeadTo b noted c
  undo_leads name (Ok count) e h leaves = subst (λ es. LeadTo b es c) (sym h) (ap (λ (m : PlainBook × Result ℕ UndoFault). is_ok m.1) e, ap (λ (m : PlainBook × Result ℕ UndoFault). m.0) e)
  undo_leads name (Err why) e h leaves = stays_lead b c noted well (leaves (undo_fault_of why) refl) h

  undo_last_leads : (r : Result (Unit {0}) NothingToUndo) → undone_last b ≡ (c, r) → IsNoted (Some kept.UndoneLast) (told_of (Some (undo_last_answer r))) b.last_serial c noted → Leaves b c (undo_last_answer r) → LeadTo b noted c
  undo_last_leads (Ok done) e h leaves = subst (λ es. LeadTo b es c) (sym h) (ap (λ (m : PlainBook × Result (Unit {0}) NothingToUndo). is_ok m.1) e, ap (λ (m : PlainBook × Result (Unit {0}) NothingToUndo). m.0) e)
  undo_last_leads (Err why) e h leaves = stays_lead b c noted well (leaves fault.NothingToUndo refl) h

  redo_leads : (r : Result (Unit {0}) RedoFault) → redone b ≡ (c, r) → IsNoted (Some kept.Redone) (told_of (Some (redo_answer r))) b.last_serial c noted → Leaves b c (redo_answer r) → LeadTo b noted c
  redo_leads (Ok done) e h leaves = subst (λ es. LeadTo b es c) (sym h) (ap (λ (m : PlainBook × Result (Unit {0}) RedoFault). is_ok m.1) e, ap (λ (m : PlainBook × Result (Unit {0}) RedoFault). m.0) e)
  redo_leads (Err why) e h leaves = stays_lead b c noted well (leaves (redo_fault_of why) refl) h

  forget_leads : (name : List ℕ) (r : Result (Unit {0}) ForgetFault) → forgotten b name ≡ (c, r) → IsNoted (Some (kept.Forgot name)) (told_of (Some (forgot_answer name r))) b.last_serial c noted → Leaves b c (forgot_answer name r) → LeadTo b noted c
  forget_leads name (Ok done) e h leaves = subst (λ es. LeadTo b es c) (sym h) (ap (λ (m : PlainBook × Result (Unit {0}) ForgetFault). is_ok m.1) e, ap (λ (m : PlainBook × Result (Unit {0}) ForgetFault). m.0) e)
  forget_leads name (Err why) e h leaves = stays_lead b c noted well (leaves (forget_fault_of why) refl) h

  -- a taking out has the last serial
  abbrev IsLast : PlainBook × Result ℕ WithoutFault → Type 0
  IsLast (d, Ok got) = d.last_serial ≡ got
  IsLast (d, Err why) = Unit {0}

  last_as : (serial : ℕ) (force : List Entry) (r : Result State ℕ) → IsLast (taken_out_as b serial force r)
  last_as serial force (Err first) = tt
  last_as serial force (Ok s) = same_serial (with_taken_out b serial force s)

  last_unless : (serial : ℕ) (fault : Option WithoutFault) → IsLast (taken_out_unless fault b serial)
  last_unless serial (Some fault) = tt
  last_unless serial None = let force : List Entry = without serial (newest_force b.line.moments) in last_as serial force (replay b.line.base force)

  taking_leads : (serial : ℕ) (r : Result ℕ WithoutFault) → taken_out b serial ≡ (c, r) → IsNoted (Some (kept.TakenOut serial 0)) (told_of (Some (taken_out_answer r))) b.last_serial c noted → Leaves b c (taken_out_answer r) → LeadTo b noted c
  taking_leads serial (Ok got) e h leaves =
      let last : c.last_serial ≡ got = subst IsLast e (last_unless serial (without_fault b serial)) in
      subst (λ es. LeadTo b es c) (sym h)
      (ap (λ (m : PlainBook × Result ℕ WithoutFault). is_taken_out_as c.last_serial m.1) e ∙ eq-eqb got c.last_serial (sym last), ap (λ (m : PlainBook × Result ℕ WithoutFault). m.0) e)
  taking_leads serial (Err why) e h leaves = stays_lead b c noted well (leaves (without_fault_of why) refl) h

journal_leads : (b : PlainBook) (noted : List KeptEvent) (command : JournalCommand) → IsWellBook b → IsNoted (move_of command) (told_of (Some (journal_done b command).1)) b.last_serial (journal_done b command).0 noted
    → Leaves b (journal_done b command).0 (journal_done b command).1 → LeadTo b noted (journal_done b command).0
journal_leads b noted (j.Mark name) well h leaves = mark_leads b well (marked b name).0 noted name (marked b name).1 refl h leaves
journal_leads b noted (j.Undo (Some name)) well h leaves = undo_leads b well (undone_to b name).0 noted name (undone_to b name).1 refl h leaves
journal_leads b noted (j.Undo None) well h leaves = undo_last_leads b well (undone_last b).0 noted (undone_last b).1 refl h leaves
journal_leads b noted j.Redo well h leaves = redo_leads b well (redone b).0 noted (redone b).1 refl h leaves
journal_leads b noted j.List well h leaves = quiet_lead b b noted well (quiet_none b) h
journal_leads b noted (j.Forget name) well h leaves = forget_leads b well (forgotten b name).0 noted name (forgotten b name).1 refl h leaves
journal_leads b noted (j.Without serial) well h leaves = taking_leads b well (taken_out b serial).0 noted serial (taken_out b serial).1 refl h leaves

-- ---- a line
quiet_noted : (told : Told) (since : ℕ) (b : PlainBook) (noted : List KeptEvent) → IsNoted None told since b noted → AreChanges since b noted
quiet_noted told since b noted h = h

module _ (files : List FileText) (s : Console) (course : Course) (blank : Option Blank) (noted : List KeptEvent) (well : IsWellBook s.book) where
  -- the console after it and its answer, and what is noted of it
  abbrev IsNotedOf : Option KeptEvent → Console × Option Answer → Type 0
  IsNotedOf event done = IsNoted event (told_of done.1) s.book.last_serial done.0.book noted

  abbrev LeavesBook : Console × Option Answer → Type 0
  LeavesBook done = (fault : Fault) → done.1 ≡ Some (Refused fault) → done.0.book ≡ s.book

  command_leads : (command : Command) → IsNotedOf (move_in (Ok (Some command))) (read_done s course blank (Ok (Some (opened files command)))) → LeavesBook (read_done s course blank (Ok (Some (opened files command))))
      → LeadTo s.book noted (read_done s course blank (Ok (Some (opened files command)))).0.book
  command_leads (c.Journal command) h leaves = journal_leads s.book noted command well h (λ fault e. leaves fault (ap (λ it. Some it) e))
  command_leads (c.Map command) h leaves = quiet_lead s.book _ noted well (quiet_command s course (opened files (c.Map command)) blank tt) h
  command_leads (c.Prog command) h leaves = quiet_lead s.book _ noted well (quiet_command s course (opened files (c.Prog command)) blank tt) h
  command_leads (c.Net command) h leaves = quiet_lead s.book _ noted well (quiet_command s course (opened files (c.Net command)) blank tt) h
  command_leads (c.Batch path) h leaves = quiet_lead s.book _ noted well (quiet_command s course (opened files (c.Batch path)) blank tt) h
  command_leads (c.Unpin path) h leaves = quiet_lead s.book _ noted well (quiet_command s course (opened files (c.Unpin path)) blank tt) h
  command_leads (c.Frame frame) h leaves = quiet_lead s.book _ noted well (quiet_command s course (opened files (c.Frame frame)) blank tt) h
  command_leads (c.Run command) h leaves = quiet_lead s.book _ noted well (quiet_command s course (opened files (c.Run command)) blank tt) h

  read_leads : (read : Result (Option Command) SyntaxFault) → IsNotedOf (move_in read) (read_done s course blank (with_files files read)) → LeavesBook (read_done s course blank (with_files files read))
      → LeadTo s.book noted (read_done s course blank (with_files files read)).0.book
  read_leads (Ok None) h leaves = quiet_lead s.book s.book noted well (quiet_none s.book) h
  read_leads (Ok (Some command)) h leaves = command_leads command h leaves
  read_leads (Err fault) h leaves = quiet_lead s.book s.book noted well (quiet_none s.book) h

  abbrev done_by : List ℕ → Bool → Console × Option Answer
  done_by line no_memory = cond no_memory (s, Some (Refused NoMemory)) (read_done s course blank (with_files files (line_read line)))

  leads_by : (line : List ℕ) (no_memory : Bool) → IsNotedOf (move_in (line_read line)) (done_by line no_memory) → LeavesBook (done_by line no_memory) → LeadTo s.book noted (done_by line no_memory).0.book
  leads_by line true h leaves = refused_leads (move_in (line_read line)) NoMemory s.book noted well h
  leads_by line false h leaves = read_leads (line_read line) h leaves

  pub line_leads : (line : List ℕ) → IsNotedOf (move_in (line_read line)) (line_done files course s blank line) → LeadTo s.book noted (line_done files course s blank line).0.book
  line_leads line h = leads_by line (course.refused && takes_memory line) h (λ fault e. ap (λ (c : Console). c.book) (left_by_line files s course blank line fault e))

-- so it is of a line by what was told of it
pub noted_line : (files : List FileText) (s then_s : Console) (course : Course) (blank : Option Blank) (line : List ℕ) (answer : Option Answer) (asked : Option KeptEvent) (told : Told) (since : ℕ) (noted : List KeptEvent)
    → IsWellBook s.book → (then_s, answer) ≡ line_done files course s blank line → asked ≡ move_in (line_read line) → told ≡ told_of answer → since ≡ s.book.last_serial → IsNoted asked told since then_s.book noted
    → LeadTo s.book noted then_s.book
noted_line files s then_s course blank line answer asked told since noted well is asked_is told_is last h =
    let its : IsNoted (move_in (line_read line)) (told_of answer) s.book.last_serial then_s.book noted =
    subst (λ (e : Option KeptEvent). IsNoted e (told_of answer) s.book.last_serial then_s.book noted) asked_is
    (subst (λ (t : Told). IsNoted asked t s.book.last_serial then_s.book noted) told_is (subst (λ (n : ℕ). IsNoted asked told n then_s.book noted) last h)) in
    let done : LeadTo s.book noted (line_done files course s blank line).0.book =
    line_leads files s course blank noted well line (subst (λ (d : Console × Option Answer). IsNoted (move_in (line_read line)) (told_of d.1) s.book.last_serial d.0.book noted) is its) in
    subst (λ (d : Console × Option Answer). LeadTo s.book noted d.0.book) (sym is) done
