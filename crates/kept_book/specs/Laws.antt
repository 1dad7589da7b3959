-- What is noted of events leads where they led, and a book that was done again keeps its word.
use Rattle.std.specs.Prelude.{◌≡◌, ◌+◌, Bool, false, List, ◌++◌, length, map as each}
use Rattle.journal_model.specs.Book.{PlainBook}
use Rattle.journal_model.specs.Run.{PlainEvent, Given, bookstep, book_after, answers_of}
use Rattle.journal_model.specs.Well.{Each, IsWellBook}
use Rattle.journal_laws.specs.Headline.{KeepsItsWord}
use Rattle.kept_event.specs.declared.event.KeptEvent.{KeptEvent}
use Rattle.kept_book.specs.Leading.{given_of, LeadTo}
use Rattle.kept_book.specs.Noted.{accepts_move, changes_since, noted, noted_in}

-- what is noted of an event, accepted or refused, a program's access too, leads from the book before it to the one after it
abbrev pub NotedLeads : PlainBook → Bool → PlainEvent → Type 0
NotedLeads b refused event = IsWellBook b → LeadTo b (noted b event (bookstep refused b event)) (bookstep refused b event).0

-- so it is with events one after the other
abbrev pub NotesLead : PlainBook → List Given → Type 0
NotesLead b events = IsWellBook b → LeadTo b (noted_in b events) (book_after b events)

-- no event of a run is a move that is accepted
abbrev pub NoneMoves : PlainBook → List Given → Type 0
NoneMoves b events = Each (λ answer. accepts_move answer ≡ false) (answers_of b events)

-- then the changes that are noted after all of them lead, if there are as many as serials were given: so none of them has
-- joined the base meanwhile
abbrev pub ChangesLead : PlainBook → List Given → Type 0
ChangesLead b events =
    let c = book_after b events in
    let changes = changes_since b.last_serial c in
    IsWellBook b → NoneMoves b events → b.last_serial + length changes ≡ c.last_serial → LeadTo b changes c

-- the book that kept events lead to is the one after them
abbrev pub LeadsAsRun : PlainBook → List KeptEvent → PlainBook → Type 0
LeadsAsRun start events b = LeadTo start events b → book_after start (each given_of events) ≡ b

-- a book that kept events led to keeps its word over them and over all that is done to it since
pub record KeepsItsWordSince (start : PlainBook) (events : List KeptEvent) (b : PlainBook) (since : List Given) : Type 0 where
  pub same : book_after start (each given_of events ++ since) ≡ book_after b since
  pub word : KeepsItsWord start (each given_of events ++ since)

abbrev pub RestartKeepsItsWord : PlainBook → List KeptEvent → PlainBook → List Given → Type 0
RestartKeepsItsWord start events b since = IsWellBook start → LeadTo start events b → KeepsItsWordSince start events b since
