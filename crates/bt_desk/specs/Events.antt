-- The events of a shared book: the plain book's, in which a box stands as its blank.
use Rattle.std.specs.Prelude.{◌≡◌, ℕ, Bool, List, [], Option, Some, None}
use Rattle.bt_mapkind.specs.Seen.{Seen}
use Rattle.journal_model.specs.Book.{PlainBook}
use Rattle.journal_model.specs.Run.{PlainEvent, bookstep, Record as PlainRecord, Mark as PlainMark, UndoTo as PlainUndoTo, UndoLast as PlainUndoLast, Redo as PlainRedo, Without as PlainWithout, Forget as PlainForget, ListAll as PlainList, Ask as PlainAsk, Start as PlainStart, Serve as PlainServe}
use Rattle.bt_without.specs.Events.{answer_of, blank_with}
use Rattle.bt_without.specs.declared.events.Answer.{Answer}
use Rattle.bt_without.specs.declared.events.Event.{Event}
use Rattle.thread_lock.specs.History.{HasStep}
use Rattle.bt_without.specs.declared.events.Event.TheVariants.{Record, Mark, UndoTo, UndoLast, Redo, Without, Forget, List as ListAll, Ask, Start, Serve}

-- the plain book's event, if this tells whether the box that comes is fresh
abbrev pub plain_of : {K : Type 0} → (K → Seen) → Event K → Bool → PlainEvent
plain_of seen (Record change blank) fresh = PlainRecord change (blank_with seen blank fresh)
plain_of seen (Mark name) fresh = PlainMark name
plain_of seen (UndoTo name) fresh = PlainUndoTo name
plain_of seen UndoLast fresh = PlainUndoLast
plain_of seen Redo fresh = PlainRedo
plain_of seen (Without serial) fresh = PlainWithout serial
plain_of seen (Forget name) fresh = PlainForget name
plain_of seen ListAll fresh = PlainList
plain_of seen (Ask question) fresh = PlainAsk question
plain_of seen (Start device) fresh = PlainStart device
plain_of seen (Serve prog access) fresh = PlainServe prog access

-- the device that a start asks for, of which there is one until the book takes it
abbrev pub device_of : Option (List ℕ) → List ℕ
device_of None = []
device_of (Some device) = device

-- the plain book does the event, with a failed allocation in it or none
abbrev pub Steps : PlainBook → PlainEvent → Answer → PlainBook → Type 0
Steps before event answer after = (refused : Bool) × (bookstep refused before event ≡ (after, answer_of answer))

-- some event leads from one book to another
abbrev pub IsOneEvent : PlainBook → PlainBook → Type 0
IsOneEvent = HasStep Steps
