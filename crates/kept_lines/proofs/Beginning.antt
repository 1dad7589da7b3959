-- The book that a script begins with is on the disk, also if the script stops.
use Rattle.std.proofs.Common.{◌≡◌, ◌⊎◌, inl, inr, false, ℕ, List, [], ◌∷◌, Option, Ok, Err, sym, ap, subst, ◌∙◌, arith}
use Rattle.std.specs.Prelude.{IsTrue}
use Rattle.sqlite_trees.specs.Tree.{Trees}
use Rattle.sqlite_schema.specs.declared.schema.Schema.{Schema}
use Rattle.sqlite_schema.specs.declared.schema.Table.{Table}
use Rattle.sqlite.specs.State.{State, HasCleanDisk, Survives}
use Rattle.journal_model.specs.Book.{PlainBook}
use Rattle.bt_journal.specs.BookView.{BookView}
use Rattle.kept_event.specs.declared.event.KeptEvent.{KeptEvent}
use Rattle.kept_ledger.specs.Table.{event_table, book_table, no_schema, ledger_schema}
use Rattle.kept_ledger.specs.TermsView.{PlainTerms}
use Rattle.kept_ledger.specs.Ledger.{Entry, IsLedger, IsLedgerOf, Commits, LeavesOnly}
use Rattle.kept_file.specs.declared.fault.OpenFault.{OpenFault}
use Rattle.kept_file.specs.declared.fault.OpenFault.TheVariants.{NoMemory}
use Rattle.kept_file.specs.Keeps.{Keeps, HoldsBook, start_of}
use Rattle.kept_file.specs.Faults.{TellsWhy}
use Rattle.bt_syntax.specs.declared.files.FileText.{FileText}
use Rattle.console_script.specs.Transcript.{Session}
use Rattle.kept_lines.specs.Kept.{IsOnDisk, Stops}
use Rattle.kept_lines.specs.declared.fault.LinesFault.{LinesFault}
use Rattle.kept_lines.specs.declared.fault.LinesFault.TheVariants.{CannotKeep, Write}
use Rattle.kept_lines.specs.declared.fault.KeptFault.TheVariants.{Open}
use Rattle.kept_lines.specs.Begun.{WasReady, IsNew, HasBook, IsNotBegun, BeginsOn, HasEntries}

-- a schema that lists nothing
pub lists_nothing : (s : Schema) → s.tables ≡ [] → s.indexes ≡ [] → s.views ≡ [] → s ≡ no_schema
lists_nothing s tables indexes views = λ i. record { tables = tables i; indexes = indexes i; views = views i }

has_tables : (s : Schema) → s ≡ no_schema → s ≡ ledger_schema → ⊥
has_tables s none some = let e : ◌≡◌ {A = List Table} [] (event_table ∷ book_table ∷ []) = ap (λ (x : Schema). x.tables) (sym none ∙ some) in cc

-- ---- a new book
module _ (terms : PlainTerms) (old new : State) (unmade : old.now.schema ≡ no_schema) where
  -- it is not there, or a crash leaves it
  pub not_made : Survives old new (HoldsBook terms (start_of terms)) → IsNotBegun terms old new
  not_made survives = record { leaves = λ clean ready t b has db may. by db (survives.crash clean db may) }
    where
      by : (db : Trees) → old.may_leave db ⊎ HoldsBook terms (start_of terms) db → old.may_leave db ⊎ ((old.now.schema ≡ no_schema) × HoldsBook terms (start_of terms) db)
      by db (inl was) = inl was
      by db (inr holds) = inr (unmade, holds)

  -- and has no entry
  pub made_entries : (HasCleanDisk new → IsLedgerOf terms [] new) → HasCleanDisk new → WasReady old → (t : PlainTerms) (es : List Entry) → HasEntries terms t old es → IsLedgerOf t es new
  made_entries made clean ready t es (inl (none, same, empty)) = subst (λ xs. IsLedgerOf t xs new) (sym empty) (subst (λ u. IsLedgerOf u [] new) (sym same) (made clean))
  made_entries made clean ready t es (inr was) = absurd (has_tables old.now.schema unmade was.schema)

  module _ {A E : Type 0} (done : A) (commits : Commits {A = A} {E = E} old new (Ok done) (λ s. Keeps terms s (start_of terms)) (HoldsBook terms (start_of terms))) where
    on_disk : HasCleanDisk new → IsOnDisk terms new (start_of terms)
    on_disk clean = record { keeps = commits.done clean; leaves = commits.durable clean }

    is_new : (t : PlainTerms) (b : PlainBook) → HasBook terms t old b → IsNew terms t old b
    is_new t b (inl it) = it
    is_new t b (inr keeps) = absurd (has_tables old.now.schema unmade keeps.ledger.ledger.schema)

    pub made_begins : (book : BookView) → book.plain ≡ start_of terms → BeginsOn terms old new (Ok book)
    made_begins book begun = λ clean ready t b has.
        let it : IsNew terms t old b = is_new t b has in
        (begun ∙ sym it.begins, subst (λ u. IsOnDisk u new b) (sym it.terms) (subst (IsOnDisk terms new) (sym it.begins) (on_disk clean)))

    -- there is no memory for it
    pub made_not : (why : OpenFault) → why ≡ NoMemory → BeginsOn terms old new (Err (Open why))
    made_not why none = (not_made commits.crash, λ clean t events was. subst (TellsWhy t events) (sym none) tt)

-- ---- a book that is there
module _ (terms : PlainTerms) (old new : State) (made : old.in_transaction ≡ false → old.now.schema ≡ no_schema → ⊥)
    (survives : Survives old new (λ _. (t : PlainTerms) (events : List KeptEvent) → IsLedger t events old → ⊥)) where
  was_clean : HasCleanDisk new → HasCleanDisk old
  was_clean clean = omega (arith, clean, survives.clean)

  left_before : (t : PlainTerms) (b : PlainBook) → Keeps t old b → HasCleanDisk new → (db : Trees) → new.may_leave db → old.may_leave db
  left_before t b keeps clean db may = by (survives.crash clean db may)
    where
      by : old.may_leave db ⊎ ((t : PlainTerms) (events : List KeptEvent) → IsLedger t events old → ⊥) → old.may_leave db
      by (inl was) = was
      by (inr never) = absurd (never t keeps.events keeps.ledger)

  keeps_it : WasReady old → HasCleanDisk new → (t : PlainTerms) (b : PlainBook) → HasBook terms t old b → Keeps t old b
  keeps_it ready clean t b (inl it) = absurd (made (ready (was_clean clean)).autocommit it.unmade)
  keeps_it ready clean t b (inr keeps) = keeps

  pub not_opened : IsNotBegun terms old new
  not_opened = record { leaves = λ clean ready t b has db may. inl (left_before t b (keeps_it ready clean t b has) clean db may) }

  pub opened_begins : (book : BookView) → (HasCleanDisk new → (t : PlainTerms) (b : PlainBook) → Keeps t old b → book.plain ≡ b)
      → (HasCleanDisk new → (t : PlainTerms) (events : List KeptEvent) → IsLedger t events old → IsLedger t events new)
      → ((t : PlainTerms) (b : PlainBook) → IsTrue old.is_open → Keeps t old b → LeavesOnly (HoldsBook t b) old)
      → BeginsOn terms old new (Ok book)
  opened_begins book is same settled = λ clean ready t b has.
      let keeps : Keeps t old b = keeps_it ready clean t b has in (
        is clean t b keeps,
        record {
          keeps = record { events = keeps.events; ledger = same clean t keeps.events keeps.ledger; leads = keeps.leads };
          leaves = λ db may. settled t b (ready (was_clean clean)).is_open keeps db (left_before t b keeps clean db may);
        },
      )

  pub opened_entries : (HasCleanDisk new → (t : PlainTerms) (es : List Entry) → IsLedgerOf t es old → IsLedgerOf t es new) → HasCleanDisk new → WasReady old → (t : PlainTerms) (es : List Entry) → HasEntries terms t old es
      → IsLedgerOf t es new
  opened_entries stays clean ready t es (inl (none, same, empty)) = absurd (made (ready (was_clean clean)).autocommit none)
  opened_entries stays clean ready t es (inr was) = stays clean t es was

-- ---- lines on the book that was begun
-- it is on the disk before them
pub begun_on : (terms : PlainTerms) (old mid : State) (book : BookView) → BeginsOn terms old mid (Ok book) → HasCleanDisk mid → (t : PlainTerms) → WasReady old × HasBook terms t old book.plain → IsOnDisk t mid book.plain
begun_on terms old mid book begins clean t has = (begins clean has.0 t book.plain has.1).1

-- a book of other terms was on the disk when a script began that stopped
pub stops_by : (files : List FileText) (start : Session) (P Q : PlainTerms → Type 0) (new : State) (out_old out_new : Option (List ℕ)) (why : LinesFault)
    → (HasCleanDisk new → (t : PlainTerms) → P t → Q t) → Stops files start Q new out_old out_new why → Stops files start P new out_old out_new why
stops_by files start P Q new out_old out_new (CannotKeep why) implies it = record {
  run = it.run;
  right = it.right;
  more = it.more;
  further = it.further;
  written = it.written;
  disk = λ clean t was. it.disk clean t (implies clean t was);
}
stops_by files start P Q new out_old out_new Write implies it = record {
  run = it.run;
  right = it.right;
  more = it.more;
  further = it.further;
  so_far = it.so_far;
  written = it.written;
  front = it.front;
  disk = λ clean t was. it.disk clean t (implies clean t was);
}
