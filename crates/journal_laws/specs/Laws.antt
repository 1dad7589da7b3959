-- The laws of marks, undo, redo, refusals and forgetting, over all books and all lists of events.
use Rattle.std.specs.Prelude.{◌≡◌, ◌≢◌, ℕ, ◌≤◌, ◌&&◌, Bool, true, false, List, [], ◌∷◌, ◌++◌, replicate, nat_lt, is_some, is_ok, is_err, if◌then◌else◌, IsTrue, IsOk, Result, Ok, Err, Option, Some, None}
use Rattle.std.specs.List.{cons_option}
use Rattle.program_access.specs.declared.reply.AccessReply.{AccessReply}
use Rattle.program_access.specs.declared.reply.AccessReply.TheVariants.{Gone, OutOfRange, Refused as RefusedAccess, Errno}
use Rattle.host_state.specs.declared.ask.Ask.{Ask}
use Rattle.host_state.specs.declared.ask.AskReply.{AskReply}
use Rattle.host_state.specs.declared.ask.AskReply.TheVariants.{Attr, Answered, Maps, Dump, Progs, Code, Pinned, Devices, Started as ToStart, Fetched as ToFetch, Refused}
use Rattle.host_state.specs.declared.change.Change.{Change}
use Rattle.journal_model.specs.declared.faults.ForgetFault.{ForgetFault}
use Rattle.journal_model.specs.declared.faults.ForgetFault.TheVariants.{NoMark, MarkForgotten, StillTakenOut}
use Rattle.journal_model.specs.declared.faults.UndoFault.TheVariants as undo
use Rattle.journal_model.specs.Replay.{Entry}
use Rattle.journal_model.specs.Plain.{Past, Pasts, now, newest_force}
use Rattle.journal_model.specs.Marks.{moments_at, is_among_names}
use Rattle.journal_model.specs.Blank.{Blank}
use Rattle.journal_model.specs.Book.{PlainBook, state_of, force_of, is_full, with_room, recorded, undone_to, undone_last, asked}
use Rattle.journal_model.specs.Force.{is_in_force}
use Rattle.journal_model.specs.Forget.{forgotten}
use Rattle.journal_model.specs.Rebase.{advanced}
use Rattle.journal_model.specs.Window.{can_fold}
use Rattle.journal_model.specs.Run.{PlainEvent, PlainAnswer, Mark, Redo, Forget, Recorded, Marked, UndoneTo, UndoneLast, Redone, TakenOut, Forgot, Listed, Asked, Started, Served, Given, event_of, bookstep, book_after, answers_of}
use Rattle.journal_model.specs.Well.{Each, OneOf, IsWellBook}
use Rattle.journal_invariant.specs.Live.{HasSameLive, KeepsWhatIsLater}

-- ---- undo to a mark
-- a mark stands now and after each of the events
abbrev pub StandsThrough : List ℕ → PlainBook → List Given → Type 0
StandsThrough name b [] = IsTrue (is_some (moments_at name b.marks))
StandsThrough name b (given ∷ rest) =
    IsTrue (is_some (moments_at name b.marks)) × StandsThrough name (bookstep given.0 b given.1).0 rest

-- the oldest moment is given up if one more was made than may be in force
abbrev pub given_up_for_room : PlainBook → PlainBook → Option ℕ
given_up_for_room b next = if is_full b && nat_lt b.last_serial next.last_serial then Some 1 else None

-- how many moments an event gives up, which leads to the next book: those before the mark of a forgetting, if it is accepted,
-- or the oldest
abbrev pub moments_given_up : PlainBook → PlainEvent → PlainBook → Option ℕ
moments_given_up b (Forget name) next = if is_ok (forgotten b name).1 then moments_at name b.marks else None
moments_given_up b _ next = given_up_for_room b next

-- and the events of a list, one after the other
abbrev pub given_up_in : PlainBook → List Given → List ℕ
given_up_in b [] = []
given_up_in b (given ∷ rest) =
    let next = (bookstep given.0 b given.1).0 in
    cons_option (moments_given_up b given.1 next) (given_up_in next rest)

-- the moments without the first so many, given up one number after the other: the state after them is the base
abbrev pub let_go : List ℕ → Pasts → Pasts
let_go [] p = p
let_go (count ∷ counts) p = let_go counts (advanced count p)

-- undoing to the mark succeeds, and gives the state, the changes in force and the moments of an earlier book, less what was
-- given up since
pub record ComesBack (name gone : List ℕ) (earlier later : PlainBook) : Type 0 where
  pub undone : ℕ
  pub accepted : (undone_to later name).1 ≡ Ok undone
  pub state : state_of (undone_to later name).0 ≡ now (let_go gone earlier.line)
  pub force : force_of (undone_to later name).0 ≡ newest_force (let_go gone earlier.line).moments
  pub moments : (undone_to later name).0.line.moments ≡ (let_go gone earlier.line).moments

-- a mark that is made after some events, and stands through all events after it, leads back to when it was made
abbrev pub ReturnsToMark : PlainBook → List Given → Bool → List ℕ → List Given → Type 0
ReturnsToMark b before refused name after =
    let earlier = book_after b before in
    let making = bookstep refused earlier (Mark name) in
    making.1 ≡ Marked (Ok tt) → StandsThrough name making.0 after →
    ComesBack name (given_up_in making.0 after) earlier (book_after b (before ++ (refused, Mark name) ∷ after))

-- the same of the last mark of its name that was made, if one of the name stands in the end
abbrev pub IsLastOfName : List ℕ → List Given → Type 0
IsLastOfName name after = Each (λ (given : Given). event_of given ≢ Mark name) after

abbrev pub ReturnsToLastMark : PlainBook → List Given → Bool → List ℕ → List Given → Type 0
ReturnsToLastMark b before refused name after =
    let earlier = book_after b before in
    let making = bookstep refused earlier (Mark name) in
    let later = book_after b (before ++ (refused, Mark name) ∷ after) in
    making.1 ≡ Marked (Ok tt) → IsLastOfName name after → IsTrue (is_some (moments_at name later.marks)) → ComesBack name (given_up_in making.0 after) earlier later

-- ---- undo of the last change
-- an accepted change is taken back by an undo of the last moment: it gives what the change found
pub record IsTakenBack (b recorded_book : PlainBook) : Type 0 where
  pub accepted : (undone_last recorded_book).1 ≡ Ok tt
  pub state : state_of (undone_last recorded_book).0 ≡ state_of b
  pub force : force_of (undone_last recorded_book).0 ≡ force_of b
  pub moments : (undone_last recorded_book).0.line.moments ≡ b.line.moments

abbrev pub TakesBack : PlainBook → Change → Option Blank → Type 0
TakesBack b change blank = IsOk (recorded b change blank).1 → IsTakenBack (with_room b) (recorded b change blank).0

-- ---- redo after undo
abbrev pub redos : ℕ → List Given
redos n = replicate n (false, Redo)

-- so many redos bring back the state, the changes in force, and all moments, undone or not
pub record BringsBack (b undone : PlainBook) (n : ℕ) : Type 0 where
  pub answers : answers_of undone (redos n) ≡ replicate n (Redone (Ok tt))
  pub line : (book_after undone (redos n)).line ≡ b.line

abbrev pub RedoesUndo : PlainBook → List ℕ → ℕ → Type 0
RedoesUndo b name n = (undone_to b name).1 ≡ Ok n → BringsBack b (undone_to b name).0 n

abbrev pub RedoesUndoLast : PlainBook → Type 0
RedoesUndoLast b = (undone_last b).1 ≡ Ok tt → BringsBack b (undone_last b).0 1

-- ---- refusals
abbrev pub is_refusal : AskReply → Bool
is_refusal (Attr attr) = false
is_refusal (Answered reply) = false
is_refusal (Maps rows) = false
is_refusal (Dump elements) = false
is_refusal (Progs rows) = false
is_refusal (Code insns) = false
is_refusal (Pinned target) = false
is_refusal (Devices rows) = false
is_refusal (ToStart program) = false
is_refusal (ToFetch program) = false
is_refusal (Refused errno) = true

abbrev pub is_refused_ask : {E : Type 0} → Result AskReply E → Bool
is_refused_ask (Ok reply) = is_refusal reply
is_refused_ask (Err fault) = true

-- an access that was not done
abbrev pub is_refused_access : AccessReply → Bool
is_refused_access Gone = true
is_refused_access OutOfRange = true
is_refused_access RefusedAccess = true
is_refused_access (Errno errno) = true
is_refused_access _ = false

abbrev pub is_refused : PlainAnswer → Bool
is_refused (Recorded result) = is_err result
is_refused (Marked result) = is_err result
is_refused (UndoneTo result) = is_err result
is_refused (UndoneLast result) = is_err result
is_refused (Redone result) = is_err result
is_refused (TakenOut result) = is_err result
is_refused (Forgot result) = is_err result
is_refused (Listed result) = is_err result
is_refused (Asked result) = is_refused_ask result
is_refused (Started result) = is_err result
is_refused (Served reply) = is_refused_access reply

abbrev pub RefusalsChangeNothing : PlainBook → Bool → PlainEvent → Type 0
RefusalsChangeNothing b refused event =
    IsTrue (is_refused (bookstep refused b event).1) → (bookstep refused b event).0 ≡ b

-- ---- giving up the past
-- a moment took one of these changes out
abbrev pub TookFrom : List Entry → Past → Type 0
TookFrom force m = (out : ℕ) × (m.out ≡ Some out) × IsTrue (is_in_force out force)

-- a moment of this serial did, and it is the first of these that did
pub record IsFirstToTake (serial : ℕ) (force : List Entry) (moments : List Past) : Type 0 where
  pub one : OneOf (λ (m : Past). (m.serial ≡ serial) × TookFrom force m) moments
  pub first : Each (λ (m : Past). TookFrom force m → serial ≤ m.serial) moments

-- why the past before a mark is not given up: no mark of the name stands, and it may have been forgotten; or a moment after the
-- mark took out a change from before it. Undone to the mark, the moments after it are the undone ones
abbrev pub IsWhyKept : PlainBook → PlainBook → List ℕ → ForgetFault → Type 0
IsWhyKept b at_mark name NoMark = (moments_at name b.marks ≡ None) × (is_among_names name b.forgotten_marks ≡ false)
IsWhyKept b at_mark name MarkForgotten = (moments_at name b.marks ≡ None) × (is_among_names name b.forgotten_marks ≡ true)
IsWhyKept b at_mark name (StillTakenOut serial) = IsFirstToTake serial (force_of at_mark) at_mark.line.undone

-- the past is given up alone, if no moment after the mark took out a change from before it; or it is told why not, and
-- nothing changes
abbrev pub IsForgetting : PlainBook → PlainBook → List ℕ → PlainBook → Result (Unit {0}) ForgetFault → Type 0
IsForgetting b at_mark name c (Ok done) = KeepsWhatIsLater b at_mark c × Each (λ (m : Past). TookFrom (force_of at_mark) m → ⊥) at_mark.line.undone
IsForgetting b at_mark name c (Err fault) = (c ≡ b) × IsWhyKept b at_mark name fault

abbrev pub ForgetsThePastAlone : PlainBook → List ℕ → Type 0
ForgetsThePastAlone b name = IsWellBook b → IsForgetting b (undone_to b name).0 name (forgotten b name).0 (forgotten b name).1

-- each question has the answer that it had before
abbrev pub AnswersAlike : PlainBook → List ℕ → Type 0
AnswersAlike b name = IsWellBook b → (question : Ask) → asked (forgotten b name).0 question ≡ asked b question

-- ---- the window
-- if the oldest moment joins the base, what is live stays as it is, and each question has the answer that it
-- had
abbrev pub MakesRoomAlone : PlainBook → Type 0
MakesRoomAlone b =
    IsWellBook b → can_fold b.line ≡ true → HasSameLive (state_of b) (state_of (with_room b)) × ((question : Ask) → asked (with_room b) question ≡ asked b question)

-- a mark that was forgotten as the oldest moment joined the base is told to be, until one of its name is made
abbrev pub StaysForgotten : PlainBook → List ℕ → List Given → Type 0
StaysForgotten b name events =
    (undone_to b name).1 ≡ Err undo.MarkForgotten → IsLastOfName name events → (undone_to (book_after b events) name).1 ≡ Err undo.MarkForgotten

-- ---- what lived
-- what lived in an earlier book lives again, and each question has the answer that it had then; the changes in force are
-- those of then, but for the first, which are part of the base
pub record LivesAgain (earlier later : PlainBook) : Type 0 where
  pub state : HasSameLive (state_of earlier) (state_of later)
  pub answers : (question : Ask) → asked later question ≡ asked earlier question
  pub based : List Entry
  pub force : force_of earlier ≡ based ++ force_of later

-- so it is after an undo to a mark, as of when it was made, whatever was given up since
abbrev pub ReturnsWhatLived : PlainBook → List Given → Bool → List ℕ → List Given → Type 0
ReturnsWhatLived b before refused name after =
    let earlier = book_after b before in
    let making = bookstep refused earlier (Mark name) in
    let later = book_after b (before ++ (refused, Mark name) ∷ after) in
    IsWellBook b → making.1 ≡ Marked (Ok tt) → StandsThrough name making.0 after → LivesAgain earlier (undone_to later name).0

-- and of the last mark of its name that was made, if one of the name stands in the end
abbrev pub ReturnsWhatLivedAtLast : PlainBook → List Given → Bool → List ℕ → List Given → Type 0
ReturnsWhatLivedAtLast b before refused name after =
    let earlier = book_after b before in
    let later = book_after b (before ++ (refused, Mark name) ∷ after) in
    IsWellBook b → (bookstep refused earlier (Mark name)).1 ≡ Marked (Ok tt) → IsLastOfName name after → IsTrue (is_some (moments_at name later.marks)) →
    LivesAgain earlier (undone_to later name).0
