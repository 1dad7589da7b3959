-- Rows of a log that are gathered, and two questions one after the other.
use Rattle.std.proofs.Common.{◌≡◌, ℕ, List, [], ◌∷◌, ◌++◌, Option, Ok, Err, Result, OnOk, IfOk, IfErr, refl, sym, subst, subst₂, arith}
use Rattle.std.specs.Prelude.{Vec}
use Rattle.std.specs.declared.alloc.Global.{Global}
use Rattle.std.proofs.lemmas.List.{map-append}
use Rattle.sqlite_value.specs.Order.{Row as Values}
use Rattle.sqlite.specs.State.{State, HasCleanDisk, Survives}
use Rattle.sqlite.proofs.StateLemmas.{survives_then, survives_weaker}
use Rattle.kept_ledger.specs.declared.fault.ReadFault.{ReadFault}
use Rattle.kept_log.specs.declared.timed.TimedEvent.{TimedEvent}
use Rattle.kept_ledger.specs.Faults.{IsSqlFault}
use Rattle.kept_ledger.specs.TermsView.{PlainTerms}
use Rattle.kept_ledger.specs.Ledger.{Entry, events_of, IsLedger, IsLedgerOf, OnlyReads}
use Rattle.kept_log.specs.Timed.{entry_of, entries_of, last_of}
use Rattle.kept_log.specs.Logged.{IsLogged, AreLogged}
use Rattle.kept_log.specs.Telling.{ReadsLog}
use Rattle.kept_log.specs.declared.rows.LogRow.{LogRow}

logged-append : (es : List Entry) (rows : List LogRow) (e : Entry) (row : LogRow) → AreLogged es rows → IsLogged e row → AreLogged (es ++ e ∷ []) (rows ++ row ∷ [])
logged-append [] [] e row h one = (one, tt)
logged-append [] (r ∷ rows) e row h one = absurd h
logged-append (f ∷ es) [] e row h one = absurd h
logged-append (f ∷ es) (r ∷ rows) e row h one = (h.0, logged-append es rows e row h.1 one)

pub one_logged : (done : List TimedEvent) (rows new : List LogRow) (it : TimedEvent) (row : LogRow) → AreLogged (entries_of done) rows → IsLogged (entry_of it) row → new ≡ rows ++ row ∷ []
    → AreLogged (entries_of (done ++ it ∷ [])) new
one_logged done rows new it row h one added =
    subst₂ AreLogged (sym (map-append entry_of done (it ∷ []))) (sym added) (logged-append (entries_of done) rows (entry_of it) row h one)

on_ok : {A E P : Type 0} (r : Result A E) → P → OnOk r P
on_ok (Ok a) p = p
on_ok (Err e) p = tt

-- ---- questions to a ledger
some_time : (t : PlainTerms) (es : List Entry) (s : State) → IsLedgerOf t es s → IsLedger t (events_of es) s
some_time t es s was = record { entries = es; are = refl; ledger = was }

module _ {A : Type 0} (text : List ℕ) (params : Values) (old new : State) where
  quiet : (r : Result A ReadFault) → OnlyReads text params old new r → Survives old new (λ _. (t : PlainTerms) (es : List Entry) → IsLedgerOf t es old → ⊥)
  quiet r asks = survives_weaker old new _ _ (λ _ db no t es was. no t (events_of es) (some_time t es old was)) asks.crash

  pub refused : (most : Option ℕ) (fault : ReadFault) → (let r : Result A ReadFault = Err fault in OnlyReads text params old new r) → ReadsLog most old new (Err fault)
  refused most fault asks = record {
    rows = λ clean t es was. tt;
    stays = λ clean t es was. tt;
    fit = λ clean t es was. asks.fit clean t (events_of es) (some_time t es old was);
    crash = quiet (Err fault) asks;
  }

pub read_once : (text : List ℕ) (params : Values) (old new : State) (most : Option ℕ) (events : Vec TimedEvent Global) (r : Result (Vec LogRow Global) ReadFault)
    → (let asked : Result (Vec TimedEvent Global) ReadFault = Ok events in OnlyReads text params old new asked)
    → (HasCleanDisk new → (t : PlainTerms) (es : List Entry) → IsLedgerOf t es old → entries_of events.items ≡ last_of most es)
    → IfOk r (λ log. AreLogged (entries_of events.items) log.items) → IfErr r IsSqlFault → ReadsLog most old new r
read_once text params old new most events r asks last logged sql = record {
  rows = λ clean t es was. subst (λ xs. IfOk r (λ log. AreLogged xs log.items)) (last clean t es was) logged;
  stays = λ clean t es was. on_ok r (asks.stays clean t es was);
  fit = λ clean t es was. sql;
  crash = quiet text params old new (Ok events) asks;
}

pub read_then : {A : Type 0} (text : List ℕ) (params : Values) (old mid new : State) (most : Option ℕ) (first : A) (r : Result (Vec LogRow Global) ReadFault)
    → (let asked : Result A ReadFault = Ok first in OnlyReads text params old mid asked) → ReadsLog most mid new r → ReadsLog most old new r
read_then text params old mid new most first r asks reads =
    let before : HasCleanDisk new → HasCleanDisk mid = λ clean. omega (arith, clean, reads.crash.clean) in
    let kept : HasCleanDisk new → (t : PlainTerms) (es : List Entry) → IsLedgerOf t es old → IsLedgerOf t es mid = λ clean t es was. asks.stays (before clean) t es was in
    record {
      rows = λ clean t es was. reads.rows clean t es (kept clean t es was);
      stays = λ clean t es was. reads.stays clean t es (kept clean t es was);
      fit = λ clean t es was. reads.fit clean t es (kept clean t es was);
      crash = survives_then old mid new _ _ _ (λ clean db no. no) (λ clean db no t es was. no t es (kept clean t es was)) (quiet text params old mid (Ok first) asks) reads.crash;
    }
