-- What an open comes to.
use Rattle.std.proofs.Common.{◌≡◌, ℕ, false, List, [], ◌∷◌, Ok, Err, Result, refl, sym, ap, subst, ◌∙◌}
use Rattle.std.specs.Prelude.{IfOk}
use Rattle.journal_model.specs.declared.faults.BookFault.{BookFault}
use Rattle.journal_model.specs.declared.limits.Limits.{Limits}
use Rattle.journal_model.specs.Book.{PlainBook, opened}
use Rattle.journal_model.specs.Run.{bookstep}
use Rattle.bt_journal.specs.BookView.{BookView, Opens}
use Rattle.kept_event.specs.declared.event.KeptEvent.{KeptEvent}
use Rattle.kept_book.specs.declared.misfit.Misfit.{Misfit}
use Rattle.kept_book.specs.declared.misfit.Misfit.TheVariants.{DoesNotFit, NoMemory}
use Rattle.kept_book.specs.declared.misfit.Stop.{Stop}
use Rattle.kept_book.specs.Leading.{event_of, LeadTo}
use Rattle.kept_book.specs.Redone.{StopsAt}
use Rattle.kept_ledger.specs.TermsView.{PlainTerms, AreGood}
use Rattle.kept_file.specs.Keeps.{start_of}
use Rattle.kept_file.specs.declared.fault.OpenFault.{OpenFault}
use Rattle.kept_file.specs.Faults.{fault_at, stop_fault, TellsWhy, IsOpened}

-- a book begins with good terms
pub opened_good : (t : PlainTerms) → AreGood t → opened t.devices t.limits ≡ Ok (start_of t)
opened_good t good = rw (good.0, good.1) refl

pub begun_from : (t : PlainTerms) (devices : List (List ℕ)) (limits : Limits) (b : BookView) → devices ≡ t.devices → limits ≡ t.limits → AreGood t → Opens (opened devices limits) (Ok b) → b.plain ≡ start_of t
begun_from t devices limits b p q good h =
    let both : ◌≡◌ {A = Result PlainBook BookFault} (Ok b.plain) (Ok (start_of t)) = sym h.0 ∙ (λ i. opened (p i) (q i)) ∙ opened_good t good in
    cc

pub told_stop : (t : PlainTerms) (events : List KeptEvent) (stop : Stop) (until : PlainBook) → StopsAt (start_of t) events stop until → TellsWhy t events (stop_fault stop)
told_stop t events stop until h = by stop.why refl
  where
    by : (why : Misfit) → stop.why ≡ why → TellsWhy t events (fault_at stop why)
    by DoesNotFit is = (until, subst (λ (s : Stop). StopsAt (start_of t) events s until) (ap (λ why. record stop { why = why }) is) h)
    by NoMemory is = tt

-- ---- the book that is kept
lead_to_one : (b c d : PlainBook) (events : List KeptEvent) → LeadTo b events c → LeadTo b events d → c ≡ d
lead_to_one b c d [] first second = sym first ∙ second
lead_to_one b c d (e ∷ es) first second = lead_to_one (bookstep false b (event_of e)).0 c d es first.1 second.1

pub opened_as : (t : PlainTerms) (events : List KeptEvent) (b : PlainBook) (r : Result BookView OpenFault) → LeadTo (start_of t) events b → IsOpened t events r → IfOk r (λ book. book.plain ≡ b)
opened_as t events b (Ok book) leads is = lead_to_one (start_of t) book.plain b events is leads
opened_as t events b (Err fault) leads is = tt
