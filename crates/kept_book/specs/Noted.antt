-- What is noted of an event: the changes that it recorded, or its move of the journal.
use Rattle.std.specs.Prelude.{ℕ, nat_lt, Bool, false, is_ok, if◌then◌else◌, List, [], ◌++◌, ◌∷◌, map as each, filter, option_map, option_to_list, Option, Some, None}
use Rattle.journal_model.specs.Replay.{Entry}
use Rattle.journal_model.specs.Book.{PlainBook, force_of}
use Rattle.journal_model.specs.Run.{PlainEvent, PlainAnswer, Mark, UndoTo, UndoLast, Redo, Without, Forget, Marked, UndoneTo, UndoneLast, Redone, TakenOut, Forgot, Given, bookstep}
use Rattle.journal_model.specs.Told.{taken_serial}
use Rattle.kept_event.specs.declared.event.KeptEvent.{KeptEvent}
use Rattle.kept_event.specs.declared.event.KeptEvent.TheVariants as kept

-- ---- changes
-- a change in force, as it is kept
abbrev pub kept_of : Entry → KeptEvent
kept_of e = kept.Changed e.serial e.change

-- the changes in force above a serial, the oldest first
abbrev pub changes_since : ℕ → PlainBook → List KeptEvent
changes_since serial b = each kept_of (filter (λ (e : Entry). nat_lt serial e.serial) (force_of b))

-- ---- moves of the journal
-- an answer accepts a move
abbrev pub accepts_move : PlainAnswer → Bool
accepts_move (Marked result) = is_ok result
accepts_move (UndoneTo result) = is_ok result
accepts_move (UndoneLast result) = is_ok result
accepts_move (Redone result) = is_ok result
accepts_move (TakenOut result) = is_ok result
accepts_move (Forgot result) = is_ok result
accepts_move _ = false

-- the serial of a taking out
abbrev pub own_serial : PlainAnswer → Option ℕ
own_serial (TakenOut result) = taken_serial result
own_serial _ = None

-- a move, as it is kept with its answer
abbrev pub move_as : PlainEvent → PlainAnswer → Option KeptEvent
move_as (Mark name) answer = Some (kept.Marked name)
move_as (UndoTo name) answer = Some (kept.UndoneTo name)
move_as UndoLast answer = Some kept.UndoneLast
move_as Redo answer = Some kept.Redone
move_as (Without serial) answer = option_map (λ (own : ℕ). kept.TakenOut serial own) (own_serial answer)
move_as (Forget name) answer = Some (kept.Forgot name)
move_as _ answer = None

-- an event is kept if it is a move that was accepted
abbrev pub move_of : PlainEvent → PlainAnswer → Option KeptEvent
move_of event answer = if accepts_move answer then move_as event answer else None

-- ---- of an event
-- what is noted of an event that was done to a book
abbrev pub noted : PlainBook → PlainEvent → PlainBook × PlainAnswer → List KeptEvent
noted b event made = option_to_list (move_of event made.1) ++ changes_since b.last_serial made.0

-- and of events, one after the other
abbrev pub noted_in : PlainBook → List Given → List KeptEvent
noted_in b [] = []
noted_in b (given ∷ rest) =
    let made = bookstep given.0 b given.1 in
    noted b given.1 made ++ noted_in made.0 rest
