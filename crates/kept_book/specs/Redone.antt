-- What doing kept events again comes to.
use Rattle.std.specs.Prelude.{◌≡◌, ◌+◌, ⊤, ℕ, Bool, false, if◌then◌else◌, List, [], ◌∷◌, ◌++◌, length, Result, Ok, Err, Option}
use Rattle.bt_mapkind.specs.Seen.{Seen}
use Rattle.host_state.specs.declared.change.Change.{Change}
use Rattle.host_state.specs.declared.reply.Refusal.{Refusal}
use Rattle.host_state.specs.declared.reply.Refusal.TheVariants as refusal
use Rattle.journal_model.specs.declared.faults.MarkFault.{MarkFault}
use Rattle.journal_model.specs.declared.faults.MarkFault.TheVariants as mark
use Rattle.journal_model.specs.declared.faults.WithoutFault.{WithoutFault}
use Rattle.journal_model.specs.declared.faults.WithoutFault.TheVariants as taking
use Rattle.journal_model.specs.Book.{PlainBook, recorded}
use Rattle.journal_model.specs.Run.{bookstep}
use Rattle.bt_journal.specs.Recording.{AreBlanks}
use Rattle.kept_event.specs.declared.event.KeptEvent.{KeptEvent}
use Rattle.kept_event.specs.declared.event.KeptEvent.TheVariants as kept
use Rattle.kept_book.specs.declared.misfit.Misfit.{Misfit}
use Rattle.kept_book.specs.declared.misfit.Misfit.TheVariants.{DoesNotFit, NoMemory}
use Rattle.kept_book.specs.declared.misfit.Stop.{Stop}
use Rattle.kept_book.specs.Leading.{box_of, event_of, new_object, is_recorded_as, answers_as, LeadTo}
use Rattle.kept_book.specs.Boxes.{ChargesItsDue}

-- a create among the events was kept with the charge that its attributes come to
abbrev pub IsKeptAsDue : KeptEvent → Type 0
IsKeptAsDue (kept.Changed serial change) = ChargesItsDue change
IsKeptAsDue _ = ⊤

-- a kept event leads on; or it does not fit, since its charge is not its due or the book answers otherwise; or memory ran out,
-- and the book is as it was
abbrev pub IsRedone : PlainBook → KeptEvent → Result (Unit {0}) Misfit → PlainBook → Type 0
IsRedone b e (Ok done) c = LeadTo b (e ∷ []) c
IsRedone b e (Err DoesNotFit) c = IsKeptAsDue e → answers_as e (bookstep false b (event_of e)).1 ≡ false
IsRedone b e (Err NoMemory) c = c ≡ b

-- the events before a position lead to a book, and the one at it is not done again there
pub record StopsAt (b : PlainBook) (events : List KeptEvent) (stop : Stop) (c : PlainBook) : Type 0 where
  pub before : List KeptEvent
  pub one : KeptEvent
  pub behind : List KeptEvent
  pub whole : events ≡ before ++ one ∷ behind
  pub place : stop.place ≡ length before + 1
  pub until : PlainBook
  pub lead : LeadTo b before until
  pub stops : IsRedone until one (Err stop.why) c

abbrev pub AreRedone : PlainBook → List KeptEvent → Result (Unit {0}) Stop → PlainBook → Type 0
AreRedone b events (Ok done) c = LeadTo b events c
AreRedone b events (Err stop) c = StopsAt b events stop c

-- ---- of one call
abbrev pub fitting : Bool → Result (Unit {0}) Misfit
fitting fits = if fits then Ok tt else Err DoesNotFit

-- why a change is not recorded, a mark not made, a change not taken out, as they were: for lack of memory, or it does not fit
abbrev pub recording_misfit : Refusal → Misfit
recording_misfit refusal.NoMemory = NoMemory
recording_misfit _ = DoesNotFit

abbrev pub marking_misfit : MarkFault → Misfit
marking_misfit mark.NoMemory = NoMemory
marking_misfit _ = DoesNotFit

abbrev pub taking_misfit : WithoutFault → Misfit
taking_misfit taking.NoMemory = NoMemory
taking_misfit _ = DoesNotFit

-- what a call came to, by a test of what it answers and the reason why not
abbrev pub judged : {A E : Type 0} → (Result A E → Bool) → (E → Misfit) → Result A E → Result (Unit {0}) Misfit
judged test misfit (Ok done) = fitting (test (Ok done))
judged test misfit (Err fault) = Err (misfit fault)

-- no book records the change with its box as it was
abbrev pub NeverFits : Change → Type 0
NeverFits change = (b : PlainBook) (serial : ℕ) → ChargesItsDue change → is_recorded_as serial (new_object change) (recorded b change (box_of change)).1 ≡ false

-- the box that a change comes with again, if it makes a map
abbrev pub IsBoxFor : {K : Type 0} → (K → Seen) → Change → Result (Option K) Misfit → Type 0
IsBoxFor seen change (Ok box) = AreBlanks seen box (box_of change)
IsBoxFor seen change (Err DoesNotFit) = NeverFits change
IsBoxFor seen change (Err NoMemory) = ⊤
