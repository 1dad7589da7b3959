-- Histories of a desk, and the plain book run over them.
use Rattle.std.specs.Prelude.{◌≡◌, List, map}
use Rattle.journal_model.specs.Book.{PlainBook}
use Rattle.journal_model.specs.Run.{PlainEvent, Given, event_of, bookrun}
use Rattle.bt_without.specs.Events.{answer_of}
use Rattle.bt_without.specs.declared.events.Answer.{Answer}
use Rattle.thread_lock.specs.declared.entry.Entry.{Entry}

-- a call: the number of the seat that made it, the event and its answer
abbrev pub Call : Type 0
Call = Entry PlainEvent Answer

-- the plain book, run over the events of a history, gives its answers and comes from one book to another; with each event
-- goes whether an allocation failed in it
pub record Runs (from : PlainBook) (history : List Call) (to : PlainBook) : Type 0 where
  pub given : List Given
  pub events : map event_of given ≡ map (λ (call : Call). call.event) history
  pub run : bookrun from given ≡ (to, map (λ (call : Call). answer_of call.answer) history)

-- one thread alone can have this history
abbrev pub IsLegal : PlainBook → List Call → Type 0
IsLegal from history = (to : PlainBook) × Runs from history to
