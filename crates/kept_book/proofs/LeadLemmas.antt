-- Kept events one after the other, and where they lead.
use Rattle.std.proofs.Common.{false, List, [], ◌∷◌, ◌++◌, map as each, sym, ◌∙◌, subst}
use Rattle.journal_model.specs.Book.{PlainBook}
use Rattle.journal_model.specs.Run.{Given, bookstep, book_after}
use Rattle.journal_model.proofs.Running.{book_after-append}
use Rattle.journal_laws.proofs.Alone.{keeps_its_word}
use Rattle.kept_event.specs.declared.event.KeptEvent.{KeptEvent}
use Rattle.kept_book.specs.Leading.{event_of, given_of, LeadTo}
use Rattle.kept_book.specs.Laws.{LeadsAsRun, RestartKeepsItsWord}

-- one list after the other
pub lead_on : (b c d : PlainBook) (es fs : List KeptEvent) → LeadTo b es c → LeadTo c fs d → LeadTo b (es ++ fs) d
lead_on b c d [] fs h k = subst (λ (x : PlainBook). LeadTo x fs d) (sym h) k
lead_on b c d (e ∷ es) fs h k = (h.0, lead_on (bookstep false b (event_of e)).0 c d es fs h.1 k)

-- they are a list of events
pub leads_as_run : (start : PlainBook) (es : List KeptEvent) (b : PlainBook) → LeadsAsRun start es b
leads_as_run start [] b h = h
leads_as_run start (e ∷ es) b h = leads_as_run (bookstep false start (event_of e)).0 es b h.1

pub restart_keeps_its_word : (start : PlainBook) (es : List KeptEvent) (b : PlainBook) (since : List Given) → RestartKeepsItsWord start es b since
restart_keeps_its_word start es b since well h = record {
  same = book_after-append start (each given_of es) since ∙ (λ i. book_after (leads_as_run start es b h i) since);
  word = keeps_its_word start (each given_of es ++ since) well;
}
