-- The plain book, which keeps every past state, and what each call makes of it and answers.
use Rattle.std.specs.Prelude.{◌≡◌, ℕ, zero, suc, ◌+◌, ◌-◌, Bool, not, ◌&&◌, List, [], ◌∷◌, ◌++◌, length, filter, map as each, nat_le, nat_lt, if◌then◌else◌, Result, Ok, Err, Option, Some, None}
use Rattle.std.specs.List.{flat_map}
use Rattle.std.specs.FinMap as map
use Rattle.host_words.specs.Spelling.{is_name}
use Rattle.bt_mapkind.specs.declared.attr.MapAttr.{MapAttr}
use Rattle.bt_mapkind.specs.declared.errno.Errno.TheVariants.{EINVAL}
use Rattle.bt_mapkind.specs.Attributes.{good}
use Rattle.bt_objects.specs.declared.make.Make.{Make}
use Rattle.bt_roots.specs.View.{devices_are_good}
use Rattle.host_state.specs.declared.ask.Ask.{Ask}
use Rattle.host_state.specs.declared.ask.AskReply.{AskReply}
use Rattle.host_state.specs.declared.change.Change.{Change}
use Rattle.host_state.specs.declared.change.Change.TheVariants.{Create, Load}
use Rattle.host_state.specs.declared.reply.Reply.{Reply}
use Rattle.host_state.specs.declared.reply.Refusal.{Refusal}
use Rattle.host_state.specs.declared.reply.Refusal.TheVariants.{Errno, WrongBlank, JournalFull, BudgetFull, SerialsSpent, IdsSpent}
use Rattle.bt_objects.specs.ById.{ById}
use Rattle.host_state.specs.State.{State}
use Rattle.host_state.specs.Act.{Outcome, act}
use Rattle.host_state.specs.Ask.{ask}
use Rattle.host_state.specs.World.{fresh_state, makes_in, charged_of}
use Rattle.journal_model.specs.declared.limits.Limits.{Limits}
use Rattle.journal_model.specs.declared.faults.BookFault.{BookFault}
use Rattle.journal_model.specs.declared.faults.BookFault.TheVariants.{BadDevices, BadLimits}
use Rattle.journal_model.specs.declared.faults.MarkFault.{MarkFault}
use Rattle.journal_model.specs.declared.faults.MarkFault.TheVariants.{BadName, MarkTaken}
use Rattle.journal_model.specs.declared.faults.NothingToUndo.{NothingToUndo}
use Rattle.journal_model.specs.declared.faults.RedoFault.{RedoFault}
use Rattle.journal_model.specs.declared.faults.RedoFault.TheVariants.{NothingToRedo, RedoLost}
use Rattle.journal_model.specs.declared.faults.UndoFault.{UndoFault}
use Rattle.journal_model.specs.declared.faults.UndoFault.TheVariants.{NoMark, MarkForgotten}
use Rattle.journal_model.specs.Replay.{Entry}
use Rattle.journal_model.specs.Plain.{Past, Pasts, now, newest_force, one_forth, cut, appended}
use Rattle.journal_model.specs.Marks.{Mark, moments_at, marks_from, names_below, is_among_names, without_name, marks_up_to}
use Rattle.journal_model.specs.Rebase.{advanced}
use Rattle.journal_model.specs.Window.{kept_line, can_fold}
use Rattle.journal_model.specs.Blank.{Blank, suits}

-- the moments, how many have joined the base, the marks in order of making, the names of those that were forgotten to make
-- room, the serial that gave up the last undone moments if any, the last serial, map id and program id that were given, and
-- the limits
pub record PlainBook : Type 0 where
  pub line : Pasts
  pub gone : ℕ
  pub marks : List Mark
  pub forgotten_marks : List (List ℕ)
  pub gave_up : Option ℕ
  pub last_serial : ℕ
  pub last_map : ℕ
  pub last_prog : ℕ
  pub limits : Limits

-- the state as it is now
abbrev pub state_of : PlainBook → State
state_of b = now b.line

-- the changes in force
abbrev pub force_of : PlainBook → List Entry
force_of b = newest_force b.line.moments

-- ---- a new book
abbrev pub limits_are_good : Limits → Bool
limits_are_good limits = nat_le 1 limits.journal && nat_le limits.journal 1000000

abbrev pub fresh_book : List (List ℕ) → Limits → PlainBook
fresh_book devices limits = record {
  line = record { base = fresh_state devices; moments = []; undone = [] };
  gone = 0;
  marks = [];
  forgotten_marks = [];
  gave_up = None;
  last_serial = 0;
  last_map = 0;
  last_prog = 0;
  limits = limits;
}

abbrev pub opened : List (List ℕ) → Limits → Result PlainBook BookFault
opened devices limits =
    if not (devices_are_good devices) then Err BadDevices else
    if not (limits_are_good limits) then Err BadLimits else
    Ok (fresh_book devices limits)

-- ---- charges
-- the states of the base, the moments and the undone moments
abbrev pub kept_states : Pasts → List State
kept_states p = p.base ∷ each (λ (m : Past). m.state) (p.moments ++ p.undone)

-- the maps of these states, each id once, by what their boxes were made with
abbrev pub makes_of : List State → ById Make
makes_of states = map.from_entries (flat_map (λ s. map.entries (makes_in s)) states)

abbrev pub charged : PlainBook → ℕ
charged b = charged_of (makes_of (kept_states b.line))

-- ---- the window
-- as many moments are in force as may be
abbrev pub is_full : PlainBook → Bool
is_full b = nat_le b.limits.journal (length b.line.moments)

-- the oldest moment joins the base, and the marks before it are forgotten
abbrev pub folded : PlainBook → PlainBook
folded b = record b {
  line = advanced 1 b.line;
  gone = b.gone + 1;
  marks = marks_from 1 b.marks;
  forgotten_marks = b.forgotten_marks ++ names_below 1 b.marks;
}

-- with more moments in force than may be, the oldest joins the base
abbrev pub within_window : PlainBook → PlainBook
within_window b = if nat_lt b.limits.journal (length b.line.moments) then folded b else b

-- the book as its next accepted change or taking out finds it
abbrev pub with_room : PlainBook → PlainBook
with_room b = if is_full b then folded (record b { line = kept_line b.line }) else b

-- ---- recording
-- what refuses a box for a new map: the first of these
abbrev pub blank_refusal : PlainBook → MapAttr → Option Blank → Option Refusal
blank_refusal b attr None = Some WrongBlank
blank_refusal b attr (Some blank) =
    if not (suits attr blank) then Some WrongBlank else
    if nat_lt b.limits.budget (charged b + blank.make.charge) then Some BudgetFull else
    None

-- only a create has a box
abbrev pub box_refusal : Option Blank → Option Refusal
box_refusal None = None
box_refusal (Some blank) = Some WrongBlank

abbrev pub making_refusal : PlainBook → Change → Option Blank → Option Refusal
making_refusal b (Create id attr charge name path template) blank =
    if nat_le b.limits.last_id b.last_map then Some IdsSpent else
    if not (good attr && is_name name) then Some (Errno EINVAL) else
    blank_refusal b attr blank
making_refusal b (Load id code name path) blank =
    if nat_le b.limits.last_id b.last_prog then Some IdsSpent else box_refusal blank
making_refusal b _ blank = box_refusal blank

-- what refuses a change before it is done: the first of these
abbrev pub refusal_of : PlainBook → Change → Option Blank → Option Refusal
refusal_of b change blank =
    if nat_le b.limits.last_serial b.last_serial then Some SerialsSpent else
    if is_full b && not (can_fold b.line) then Some JournalFull else
    making_refusal b change blank

-- the change that is done: a create gets this id and the charge of its box, whatever was handed in
abbrev pub resolved : ℕ → Option Blank → Change → Change
resolved new None change = change
resolved new (Some blank) (Create id attr charge name path template) = Create new attr blank.make.charge name path template
resolved new (Some blank) change = change

-- the last map id that was given, after a change that is done
abbrev pub last_map_after : Change → ℕ → ℕ
last_map_after (Create id attr charge name path template) last = id
last_map_after _ last = last

-- the change with its id as it is done: a load gets this one, whatever was handed in
abbrev pub with_prog_id : ℕ → Change → Change
with_prog_id new (Load id code name path) = Load new code name path
with_prog_id new change = change

-- the last program id that was given, after a change that is done
abbrev pub last_prog_after : Change → ℕ → ℕ
last_prog_after (Load id code name path) last = id
last_prog_after _ last = last

-- the serial that gave undone moments up: this one if there were any
abbrev pub given_up_by : ℕ → List Past → Option ℕ → Option ℕ
given_up_by serial [] before = before
given_up_by serial (m ∷ ms) before = Some serial

-- the book with one more moment
abbrev pub with_moment : PlainBook → Change → State × Reply → PlainBook
with_moment b change done = record b {
  line = appended b.line (record { serial = b.last_serial + 1; change = change; reply = done.1 }) done.0;
  gave_up = given_up_by (b.last_serial + 1) b.line.undone b.gave_up;
  last_serial = b.last_serial + 1;
  last_map = last_map_after change b.last_map;
  last_prog = last_prog_after change b.last_prog;
}

-- a change that is done appends its moment, and one that is not changes nothing
abbrev pub noted_as : PlainBook → Change → Outcome → PlainBook × Result (ℕ × Reply) Refusal
noted_as b change (Err errno) = (b, Err (Errno errno))
noted_as b change (Ok done) = (with_moment b change done, Ok (b.last_serial + 1, done.1))

-- and the book stays within its window
abbrev pub recorded_as : PlainBook → Change → Outcome → PlainBook × Result (ℕ × Reply) Refusal
recorded_as b change (Err errno) = (b, Err (Errno errno))
recorded_as b change (Ok done) = (within_window (with_moment b change done), Ok (b.last_serial + 1, done.1))

abbrev pub recorded_unless : Option Refusal → PlainBook → Change → PlainBook × Result (ℕ × Reply) Refusal
recorded_unless (Some refusal) b change = (b, Err refusal)
recorded_unless None b change = recorded_as b change (act (now b.line) change)

-- the change that is done, with what it gets
abbrev pub done_as : PlainBook → Change → Option Blank → Change
done_as b change blank = resolved (b.last_map + 1) blank (with_prog_id (b.last_prog + 1) change)

abbrev pub recorded : PlainBook → Change → Option Blank → PlainBook × Result (ℕ × Reply) Refusal
recorded b change blank = recorded_unless (refusal_of b change blank) b (done_as b change blank)

-- ---- marks
-- the book with one more mark, which may have the name of a forgotten one
abbrev pub with_mark : PlainBook → List ℕ → PlainBook
with_mark b name = record b {
  marks = b.marks ++ record { name = name; moments = length b.line.moments } ∷ [];
  forgotten_marks = without_name name b.forgotten_marks;
}

abbrev pub marked_unless : Option ℕ → PlainBook → List ℕ → PlainBook × Result (Unit {0}) MarkFault
marked_unless (Some moments) b name = (b, Err MarkTaken)
marked_unless None b name = (with_mark b name, Ok tt)

abbrev pub marked : PlainBook → List ℕ → PlainBook × Result (Unit {0}) MarkFault
marked b name = if not (is_name name) then (b, Err BadName) else marked_unless (moments_at name b.marks) b name

-- ---- undo and redo
-- the serial that gave moments up, after an undo of so many
abbrev pub still_given_up : ℕ → Option ℕ → Option ℕ
still_given_up zero before = before
still_given_up (suc n) before = None

-- back to a number of moments: the marks of a greater number are gone
abbrev pub back_to : PlainBook → ℕ → PlainBook
back_to b count = record b {
  line = cut count b.line;
  marks = marks_up_to count b.marks;
  gave_up = still_given_up (length b.line.moments - count) b.gave_up;
}

-- why there is no undo to a mark of the name
abbrev pub undo_fault : PlainBook → List ℕ → UndoFault
undo_fault b name = if is_among_names name b.forgotten_marks then MarkForgotten else NoMark

abbrev pub undone_from : PlainBook → List ℕ → Option ℕ → PlainBook × Result ℕ UndoFault
undone_from b name None = (b, Err (undo_fault b name))
undone_from b name (Some count) = (back_to b count, Ok (length b.line.moments - count))

abbrev pub undone_to : PlainBook → List ℕ → PlainBook × Result ℕ UndoFault
undone_to b name = undone_from b name (moments_at name b.marks)

abbrev pub undone_last : PlainBook → PlainBook × Result (Unit {0}) NothingToUndo
undone_last b =
    if nat_le 1 (length b.line.moments) then (back_to b (length b.line.moments - 1), Ok tt)
    else (b, Err (record {}))

abbrev pub redo_fault : Option ℕ → RedoFault
redo_fault None = NothingToRedo
redo_fault (Some serial) = RedoLost serial

-- the book with its first undone moment in force again
abbrev pub brought_back : PlainBook → PlainBook
brought_back b = record b { line = one_forth b.line }

abbrev pub redone : PlainBook → PlainBook × Result (Unit {0}) RedoFault
redone b = if nat_le 1 (length b.line.undone) then (brought_back b, Ok tt) else (b, Err (redo_fault b.gave_up))

-- ---- questions
abbrev pub asked : PlainBook → Ask → AskReply
asked b question = ask (now b.line) question

-- ---- lack of memory
-- a failed allocation, and then the book is as it was, or what the plain book does
abbrev pub OrNoMemory : {A E : Type 0} → PlainBook → E → PlainBook × Result A E → PlainBook × Result A E → Type 0
OrNoMemory old no_memory does made = (refused : Bool) × (made ≡ (if refused then (old, Err no_memory) else does))
