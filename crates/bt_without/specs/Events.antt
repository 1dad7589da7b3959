-- Events of a book, and runs of them, as the plain book has them.
use Rattle.std.specs.Prelude.{◌≡◌, ⊤, Bool, List, [], ◌∷◌, map, Option, Some, None}
use Rattle.bt_mapkind.specs.Seen.{Seen}
use Rattle.bt_objects.specs.Boxes.{make_of}
use Rattle.journal_model.specs.Blank.{Blank}
use Rattle.journal_model.specs.Book.{PlainBook}
use Rattle.journal_model.specs.Run.{PlainEvent, PlainAnswer, Given, event_of, bookstep, bookrun, Record as PlainRecord, Mark as PlainMark, UndoTo as PlainUndoTo, UndoLast as PlainUndoLast, Redo as PlainRedo, Without as PlainWithout, Forget as PlainForget, ListAll as PlainList, Ask as PlainAsk, Start as PlainStart, Serve as PlainServe, Recorded as PlainRecorded, Marked as PlainMarked, UndoneTo as PlainUndoneTo, UndoneLast as PlainUndoneLast, Redone as PlainRedone, TakenOut as PlainTakenOut, Forgot as PlainForgot, Listed as PlainListed, Asked as PlainAsked, Started as PlainStarted, Served as PlainServed}
use Rattle.bt_journal.specs.Recording.{AreBlanks}
use Rattle.bt_without.specs.declared.events.Event.{Event}
use Rattle.bt_without.specs.declared.events.Event.TheVariants.{Record, Mark, UndoTo, UndoLast, Redo, Without, Forget, List as ListAll, Ask, Start, Serve}
use Rattle.bt_without.specs.declared.events.Answer.{Answer}
use Rattle.bt_without.specs.declared.events.Answer.TheVariants.{Recorded, Marked, UndoneTo, UndoneLast, Redone, TakenOut, Forgot, Listed, Asked, Started, Served}

-- the blank of the box that comes, if one does, if this tells whether it is fresh
abbrev pub blank_with : {K : Type 0} → (K → Seen) → Option K → Bool → Option Blank
blank_with seen None fresh = None
blank_with seen (Some kind) fresh = Some (record { make = make_of (seen kind); fresh = fresh })

-- the plain book's event: a box stands there as its blank
abbrev pub IsEvent : {K : Type 0} → (K → Seen) → Event K → PlainEvent → Type 0
IsEvent seen (Record change blank) plain = (b : Option Blank) × AreBlanks seen blank b × (plain ≡ PlainRecord change b)
IsEvent seen (Mark name) plain = plain ≡ PlainMark name
IsEvent seen (UndoTo name) plain = plain ≡ PlainUndoTo name
IsEvent seen UndoLast plain = plain ≡ PlainUndoLast
IsEvent seen Redo plain = plain ≡ PlainRedo
IsEvent seen (Without serial) plain = plain ≡ PlainWithout serial
IsEvent seen (Forget name) plain = plain ≡ PlainForget name
IsEvent seen ListAll plain = plain ≡ PlainList
IsEvent seen (Ask question) plain = plain ≡ PlainAsk question
IsEvent seen (Start device) plain = plain ≡ PlainStart device
IsEvent seen (Serve prog access) plain = plain ≡ PlainServe prog access

-- the plain book's events, in the same order
abbrev pub AreEvents : {K : Type 0} → (K → Seen) → List (Event K) → List PlainEvent → Type 0
AreEvents seen [] [] = ⊤
AreEvents seen [] (p ∷ ps) = ⊥
AreEvents seen (e ∷ es) [] = ⊥
AreEvents seen (e ∷ es) (p ∷ ps) = IsEvent seen e p × AreEvents seen es ps

-- the plain book's answer
abbrev pub answer_of : Answer → PlainAnswer
answer_of (Recorded result) = PlainRecorded result
answer_of (Marked result) = PlainMarked result
answer_of (UndoneTo result) = PlainUndoneTo result
answer_of (UndoneLast result) = PlainUndoneLast result
answer_of (Redone result) = PlainRedone result
answer_of (TakenOut result) = PlainTakenOut result
answer_of (Forgot result) = PlainForgot result
answer_of (Listed result) = PlainListed result
answer_of (Asked result) = PlainAsked result
answer_of (Started result) = PlainStarted result
answer_of (Served reply) = PlainServed reply

-- an event is done as the plain book does it, with a failed allocation in it or none
pub record IsStep {K : Type 0} (seen : K → Seen) (old : PlainBook) (event : Event K) (answer : Answer) (new : PlainBook) : Type 0 where
  pub given : Given
  pub event_is : IsEvent seen event (event_of given)
  pub does : bookstep given.0 old (event_of given) ≡ (new, answer_of answer)

-- events are done as the plain book does them, each with a failed allocation in it or none
pub record IsRun {K : Type 0} (seen : K → Seen) (old : PlainBook) (events : List (Event K)) (answers : List Answer) (new : PlainBook) : Type 0 where
  pub given : List Given
  pub events_are : AreEvents seen events (map event_of given)
  pub run : bookrun old given ≡ (new, map answer_of answers)
