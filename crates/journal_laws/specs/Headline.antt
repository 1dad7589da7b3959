-- What a journal promises: undoing back to a mark, undoing one change alone, forgetting, and refusals, over all lists of
-- events.
use Rattle.std.specs.Prelude.{◌≡◌, ◌≢◌, ◌⊎◌, ◌↔◌, ℕ, ◌+◌, ◌<◌, ◌≤◌, Bool, List, [], ◌∷◌, ◌++◌, length, Result, Ok, Err, Some}
use Rattle.host_state.specs.State.{State}
use Rattle.host_state.specs.Act.{act}
use Rattle.journal_model.specs.declared.limits.Limits.{Limits}
use Rattle.journal_model.specs.declared.faults.WithoutFault.{WithoutFault}
use Rattle.journal_model.specs.declared.faults.WithoutFault.TheVariants.{NotInForce, SerialsSpent, JournalFull, DependsOn, NoMemory}
use Rattle.journal_model.specs.Replay.{Entry, replay}
use Rattle.journal_model.specs.Book.{PlainBook, state_of, force_of, with_room, undone_to, undone_last}
use Rattle.journal_model.specs.Without.{taken_out}
use Rattle.journal_model.specs.Run.{PlainEvent, Mark, Marked, Given, bookstep, book_after}
use Rattle.journal_model.specs.Well.{Each, OneOf, IsWellBook}
use Rattle.journal_model.specs.Plain.{Past, newest_force}
use Rattle.journal_laws.specs.Laws.{StandsThrough, given_up_in, let_go, IsTakenBack, BringsBack, ReturnsToMark, RefusalsChangeNothing, ForgetsThePastAlone, AnswersAlike, MakesRoomAlone, ReturnsWhatLived}
use Rattle.journal_invariant.specs.Laws.{EventsRise, StaysWithinLimits}

-- ---- each answering as before
-- the changes answer as they did, one after the other from a state on, and lead to another
abbrev pub LeadAsBefore : State → List Entry → State → Type 0
LeadAsBefore s [] t = s ≡ t
LeadAsBefore s (e ∷ es) t = (mid : State) × (act s e.change ≡ Ok (mid, e.reply)) × LeadAsBefore mid es t

abbrev pub ReplaysAsBefore : State → List Entry → State → Type 0
ReplaysAsBefore s es t = (replay s es ≡ Ok t) ↔ LeadAsBefore s es t

-- ---- one change alone
-- the change of a serial among those in force, with those before it and those after it
pub record StandsAmong (serial : ℕ) (force : List Entry) : Type 0 where
  pub before : List Entry
  pub one : Entry
  pub after : List Entry
  pub whole : force ≡ before ++ one ∷ after
  pub its : one.serial ≡ serial

-- none of them has the serial
abbrev pub StandsNowhere : ℕ → List Entry → Type 0
StandsNowhere serial force = Each (λ (e : Entry). e.serial ≢ serial) force

-- the others are in force then, as they stand, and the state is what they make of the base, each answering as it did
pub record IsWithout (b : PlainBook) (serial : ℕ) (c : PlainBook) : Type 0 where
  pub stood : StandsAmong serial (force_of b)
  pub base : c.line.base ≡ b.line.base
  pub force : force_of c ≡ stood.before ++ stood.after
  pub state : replay b.line.base (stood.before ++ stood.after) ≡ Ok (state_of c)

-- the first of the others that answers otherwise without the one: a later change in force; all before it answer as they
-- did, and it does not
pub record IsFirstToDiffer (b : PlainBook) (serial first : ℕ) : Type 0 where
  pub before : List Entry
  pub one : Entry
  pub between : List Entry
  pub dependant : Entry
  pub after : List Entry
  pub whole : force_of b ≡ before ++ one ∷ (between ++ dependant ∷ after)
  pub its : one.serial ≡ serial
  pub told : dependant.serial ≡ first
  pub later : serial < first
  pub until : State
  pub as_before : replay b.line.base (before ++ between) ≡ Ok until
  pub otherwise : (t : State) → act until dependant.change ≢ Ok (t, dependant.reply)

-- the oldest moment in force cannot join the base: its change is the one to take out, or a newer moment in force took it out
pub record HoldsTheWindow (b : PlainBook) (serial : ℕ) : Type 0 where
  pub newer : List Past
  pub oldest : Past
  pub whole : b.line.moments ≡ newer ++ oldest ∷ []
  pub holds : (oldest.serial ≡ serial) ⊎ OneOf (λ (m : Past). m.out ≡ Some oldest.serial) newer

-- why a change is not taken out
abbrev pub IsWhy : PlainBook → ℕ → WithoutFault → Type 0
IsWhy b serial NotInForce = StandsNowhere serial (force_of b)
IsWhy b serial SerialsSpent = StandsAmong serial (force_of b) × (b.limits.last_serial ≤ b.last_serial)
IsWhy b serial JournalFull = StandsAmong serial (force_of b) × (b.last_serial < b.limits.last_serial) × (b.limits.journal ≤ length b.line.moments) × HoldsTheWindow b serial
IsWhy b serial (DependsOn first) = IsFirstToDiffer b serial first
IsWhy b serial NoMemory = ⊥

-- an undo to a mark undoes one moment more, and gives the same
pub record IsOneMore (name : List ℕ) (n : ℕ) (b c : PlainBook) : Type 0 where
  pub accepted : (undone_to c name).1 ≡ Ok (n + 1)
  pub state : state_of (undone_to c name).0 ≡ state_of (undone_to b name).0
  pub force : force_of (undone_to c name).0 ≡ force_of (undone_to b name).0
  pub moments : (undone_to c name).0.line.moments ≡ (undone_to b name).0.line.moments

-- directly after a taking out: an undo of the last moment gives the state, the changes in force and the moments before it,
-- and a redo gives it again; an undo to a mark gives what it would have given before it
pub record GoesBack (b c : PlainBook) : Type 0 where
  pub last : IsTakenBack b c
  pub again : BringsBack c (undone_last c).0 1
  pub marks : (name : List ℕ) (n : ℕ) → (undone_to b name).1 ≡ Ok n → IsOneMore name n b c

-- a taking out gives the book that it finds without the one change, or it is refused for a reason and changes nothing
abbrev pub IsOutcome : PlainBook → ℕ → PlainBook → Result ℕ WithoutFault → Type 0
IsOutcome b serial c (Ok own) = (own ≡ b.last_serial + 1) × IsWithout (with_room b) serial c × GoesBack (with_room b) c
IsOutcome b serial c (Err fault) = (c ≡ b) × IsWhy b serial fault

abbrev pub TakesOneOut : PlainBook → ℕ → Type 0
TakesOneOut b serial = IsOutcome b serial (taken_out b serial).0 (taken_out b serial).1

abbrev pub TakesOneOutAfter : PlainBook → List Given → ℕ → Type 0
TakesOneOutAfter b events serial = IsWellBook b → TakesOneOut (book_after b events) serial

-- a change that was in force when a mark was made, and that no forgetting since has made part of the base, is in force again
-- after an undo to the mark, if it was taken out since or not
abbrev pub ReturnsWhatWasTakenOut : PlainBook → List Given → Bool → List ℕ → List Given → ℕ → Type 0
ReturnsWhatWasTakenOut b before refused name after serial =
    let earlier = book_after b before in
    let making = bookstep refused earlier (Mark name) in
    let later = book_after b (before ++ (refused, Mark name) ∷ after) in
    making.1 ≡ Marked (Ok tt) → StandsThrough name making.0 after →
    StandsAmong serial (newest_force (let_go (given_up_in making.0 after) earlier.line).moments) → StandsAmong serial (force_of (undone_to later name).0)

-- ---- all of it
-- after these events each mark that was made among them and stands leads back, and what lived then lives again; any change
-- can be taken out alone or it is told why not; forgetting gives up the past alone, and so does the window; what is refused
-- changes nothing; serials rise; and the book is within the limits that it was within
pub record KeepsItsWord (b : PlainBook) (events : List Given) : Type 0 where
  pub marks : (before : List Given) (refused : Bool) (name : List ℕ) (after : List Given) → before ++ (refused, Mark name) ∷ after ≡ events → ReturnsToMark b before refused name after
  pub lives : (before : List Given) (refused : Bool) (name : List ℕ) (after : List Given) → before ++ (refused, Mark name) ∷ after ≡ events → ReturnsWhatLived b before refused name after
  pub alone : (serial : ℕ) → TakesOneOut (book_after b events) serial
  pub past : (name : List ℕ) → ForgetsThePastAlone (book_after b events) name
  pub asked : (name : List ℕ) → AnswersAlike (book_after b events) name
  pub room : MakesRoomAlone (book_after b events)
  pub refusals : (refused : Bool) (event : PlainEvent) → RefusalsChangeNothing (book_after b events) refused event
  pub serials : EventsRise b events
  pub limits : (limits : Limits) → StaysWithinLimits limits b events

abbrev pub WellKeepsItsWord : PlainBook → List Given → Type 0
WellKeepsItsWord b events = IsWellBook b → KeepsItsWord b events
