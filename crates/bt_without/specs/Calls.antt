-- How many calls of boxes taking a change out makes at most, and each event.
use Rattle.std.specs.Prelude.{◌≡◌, ℕ, ◌+◌, ◌*◌, ◌==◌, List, [], ◌∷◌, length, if◌then◌else◌, Result, Ok, Err}
use Rattle.bt_mapkind.specs.Seen.{Seen}
use Rattle.host_state.specs.State.{State}
use Rattle.journal_model.specs.Replay.{Entry}
use Rattle.journal_model.specs.Plain.{now, newest_force}
use Rattle.journal_model.specs.Book.{PlainBook}
use Rattle.bt_journal.specs.After.{after}
use Rattle.bt_journal.specs.Alone.{is_alone}
use Rattle.bt_journal.specs.Calls.{Costs, calls_again, calls_back, calls_forth}
use Rattle.host_state.specs.Work.{CallsAtMost, calls_of}
use Rattle.bt_journal.specs.Undone.{CallsToUndo, calls_to_serve}
use Rattle.bt_without.specs.declared.events.Event.{Event}
use Rattle.bt_without.specs.declared.events.Event.TheVariants.{Record, UndoTo, UndoLast, Redo, Without, Ask, Serve}
use Rattle.bt_without.specs.declared.events.Answer.{Answer}
use Rattle.bt_without.specs.declared.events.Answer.TheVariants.{Recorded, UndoneTo, TakenOut}

-- the one and so many later changes are turned back; and if it is refused, those that were done again too, and then all
-- are put in place again
abbrev pub calls_to_turn : {A E : Type 0} → Result A E → ℕ → ℕ
calls_to_turn (Ok taken) later = later + 1
calls_to_turn (Err fault) later = 3 * later + 2

-- of these changes, which begin in a state, the later ones are turned back with the one of a serial, and done again without
-- it; if none has the serial, no call is made
abbrev pub calls_to_unwind : {A E : Type 0} → Result A E → ℕ → State → List Entry → ℕ
calls_to_unwind result serial s [] = 0
calls_to_unwind result serial s (e ∷ es) = if e.serial == serial then calls_to_turn result (length es) + calls_again s es else calls_to_unwind result serial (after s e) es

-- one is enough if each later change is apart from the one
abbrev pub calls_without : {A E : Type 0} → Result A E → ℕ → State → List Entry → ℕ
calls_without result serial s es = if is_alone serial s es then 1 else calls_to_unwind result serial s es

-- what an event adds to the work at most, by what its call answered: a mark, a forgetting, a list and a frame's start add
-- nothing
abbrev pub CallsOfEvent : {K : Type 0} → (K → Seen) → PlainBook → Event K → Answer → ℕ → ℕ → Type 0
CallsOfEvent seen b (Record change blank) (Recorded result) old new = Costs (now b.line) change result old new
CallsOfEvent seen b (UndoTo name) (UndoneTo result) old new = CallsToUndo b.line.moments result old new
CallsOfEvent seen b UndoLast answer old new = CallsAtMost (calls_back 1 b.line.moments) old new
CallsOfEvent seen b Redo answer old new = CallsAtMost (calls_forth 1 (newest_force b.line.moments) b.line.undone) old new
CallsOfEvent seen b (Without serial) (TakenOut result) old new = CallsAtMost (calls_without result serial b.line.base (newest_force b.line.moments)) old new
CallsOfEvent seen b (Ask question) answer old new = CallsAtMost (calls_of (now b.line) question) old new
CallsOfEvent seen b (Serve prog access) answer old new = CallsAtMost (calls_to_serve access) old new
CallsOfEvent seen b _ answer old new = new ≡ old
