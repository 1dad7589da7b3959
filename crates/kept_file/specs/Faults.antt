-- Why a kept book is not opened.
use Rattle.std.specs.Prelude.{◌≡◌, ◌⊎◌, ⊤, List, Result, Ok, Err}
use Rattle.journal_model.specs.Book.{PlainBook}
use Rattle.bt_journal.specs.BookView.{BookView}
use Rattle.kept_event.specs.declared.event.KeptEvent.{KeptEvent}
use Rattle.kept_book.specs.declared.misfit.Misfit.TheVariants as misfit
use Rattle.kept_book.specs.declared.misfit.Stop.{Stop}
use Rattle.kept_book.specs.declared.misfit.Misfit.{Misfit}
use Rattle.kept_book.specs.Leading.{LeadTo}
use Rattle.kept_book.specs.Redone.{StopsAt}
use Rattle.kept_ledger.specs.declared.fault.ReadFault.TheVariants.{NoBook}
use Rattle.kept_ledger.specs.Faults.{IsSqlFault}
use Rattle.kept_ledger.specs.TermsView.{PlainTerms}
use Rattle.kept_file.specs.declared.fault.OpenFault.{OpenFault}
use Rattle.kept_file.specs.declared.fault.OpenFault.TheVariants.{Ledger, DoesNotFit, NoMemory}
use Rattle.kept_file.specs.Keeps.{start_of}

abbrev pub fault_at : Stop → Misfit → OpenFault
fault_at stop misfit.DoesNotFit = DoesNotFit stop.place
fault_at stop misfit.NoMemory = NoMemory

abbrev pub stop_fault : Stop → OpenFault
stop_fault stop = fault_at stop stop.why

-- of a book with these terms and events: SQLite stopped, memory ran out, or the event of this place is the first that a book does
-- not do again as it was done
abbrev pub TellsWhy : PlainTerms → List KeptEvent → OpenFault → Type 0
TellsWhy t events (Ledger fault) = IsSqlFault fault
TellsWhy t events (DoesNotFit place) = (until : PlainBook) × StopsAt (start_of t) events (record { place = place; why = misfit.DoesNotFit }) until
TellsWhy t events NoMemory = ⊤

-- the events lead to the book that is opened, or why it is not
abbrev pub IsOpened : PlainTerms → List KeptEvent → Result BookView OpenFault → Type 0
IsOpened t events (Ok book) = LeadTo (start_of t) events book.plain
IsOpened t events (Err fault) = TellsWhy t events fault

-- there is no book, unless SQLite stopped before that was seen
abbrev pub TellsNoBook : OpenFault → Type 0
TellsNoBook (Ledger fault) = IsSqlFault fault ⊎ (fault ≡ NoBook)
TellsNoBook _ = ⊥
