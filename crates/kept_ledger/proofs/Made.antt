-- Tables that are made in a transaction, and the terms that are put in.
use Rattle.std.proofs.Common.{◌≡◌, ◌≢◌, ℕ, List, [], ◌∷◌, ◌++◌, false, Some, Ok, Err, Result, refl, sym, ap, subst, ◌∙◌, None, OnOk, arith}
use Rattle.sqlite_value.specs.declared.value.Value.TheVariants.{Null}
use Rattle.sqlite_value.specs.Order.{Row as Values}
use Rattle.sqlite_trees.specs.Tree.{Trees}
use Rattle.sqlite_schema.specs.declared.schema.Schema.{Schema}
use Rattle.sqlite_schema.specs.declared.schema.Table.{Table}
use Rattle.sqlite_schema.specs.declared.command.Source.TheVariants.{Values as Given}
use Rattle.sqlite_schema.specs.declared.command.Command.TheVariants.{Insert, CreateTable}
use Rattle.sqlite_resolve.specs.Compile.{table_defined_by}
use Rattle.sqlite_rules.specs.Edit.{edit_of, edited}
use Rattle.sqlite_rules.specs.declared.error.Rowids.TheVariants.{Chosen}
use Rattle.sqlite_catalog.specs.Change.{created, next_tree, KeepsRows}
use Rattle.sqlite_catalog.specs.Listing.{IsSound}
use Rattle.sqlite.specs.Does.{Tally, Does, lacks_sequence}
use Rattle.sqlite.specs.Rows.{Written}
use Rattle.sqlite.specs.declared.error.Error.{Error}
use Rattle.sqlite.specs.Listing.{understood}
use Rattle.sqlite.specs.Effect.{Database, IsDatabase}
use Rattle.sqlite.specs.State.{State, HasCleanDisk, Survives, mode_of, Executes, CommitsBy}
use Rattle.sqlite.proofs.StateLemmas.{survives_then, survives_weaker}
use Rattle.sqlite.proofs.Callers.{statement_of, runs_as, one_step}
use Rattle.kept_ledger.specs.Table.{event_table, book_defined, book_table, no_schema, event_schema, ledger_schema}
use Rattle.kept_ledger.specs.TermsView.{PlainTerms, AreTerms}
use Rattle.kept_ledger.specs.TermsRow.{format, row_of_terms}
use Rattle.kept_ledger.specs.Ledger.{Entry, HoldEntries, IsMaking, IsAdding, stored_terms}
use Rattle.kept_ledger.proofs.ColumnsRead.{cast_null, cast_number}
use Rattle.kept_ledger.proofs.Texts.{make_events_text, make_book_text, add_terms_text, columns, make_events_is, make_book_is, add_terms_is, make_events_plain, make_book_plain, add_terms_plain}
use Rattle.kept_ledger.proofs.Statements.{went, same_value, inside_commits}

-- ---- making a table
-- the schema has the table, which is empty, and the others stay
record Makes (schema : Schema) (table : Table) (old new : Database) : Type 0 where
  schema_is : new.schema ≡ created schema table
  empty : new.trees (next_tree schema) ≡ []
  others : KeepsRows schema.tables old.trees new.trees

does_make : (s : State) (tally : Tally) (after : Database) (schema : Schema) (text : List ℕ) (table : Table) → s.now.schema ≡ schema → table_defined_by text ≡ Ok table → lacks_sequence (created schema table) ≡ false
    → Does s.step_limit (mode_of s) [] s.now text None CreateTable (Ok (tally, after)) → Makes schema table s.now after
does_make s tally after schema text table has defined uncounted h =
    let all = went h in
    let first = went all.1 in
    let made = first.1 in
    let both : Ok made.table ≡ Ok table = sym made.defined ∙ defined in
    let same : made.table ≡ table = cc in
    let is : first.0.schema ≡ created schema table = made.is ∙ ap (λ t. created t made.table) has ∙ ap (created schema) same in
    let plain : lacks_sequence first.0.schema ≡ false = ap lacks_sequence is ∙ uncounted in
    let now : after ≡ first.0 = ap (λ (p : Tally × Database). p.1) (same_value all.2) ∙ same_value (rw plain at first.2) in
    record {
      schema_is = ap (λ (d : Database). d.schema) now ∙ is;
      empty = ap (λ (d : Database). d.trees (next_tree schema)) now ∙ subst (λ t. first.0.trees (next_tree t) ≡ []) has made.empty;
      others = subst (λ (d : Database). KeepsRows schema.tables s.now.trees d.trees) (sym now) (subst (λ (t : Schema). KeepsRows t.tables s.now.trees first.0.trees) has made.others);
    }

pub makes_events : (old new : State) (r : Result ℕ Error) → IsMaking no_schema old → Executes make_events_text [] old new r → OnOk r (IsMaking event_schema new)
makes_events old new (Err e) was h = tt
makes_events old new (Ok count) was h =
    let w = runs_as make_events_text [] old new no_schema was.schema_is CreateTable make_events_is.0 make_events_plain count h in
    let made = does_make old w.tally new.now no_schema make_events_text event_table was.schema_is make_events_is.2 refl
    (subst (λ t. Does old.step_limit (mode_of old) [] old.now t None CreateTable (Ok (w.tally, new.now))) make_events_is.1 w.changed) in
    record { schema_is = made.schema_is; empty = (made.empty, tt); inside = w.shown.mode ∙ was.inside }

pub makes_book : (old new : State) (r : Result ℕ Error) → IsMaking event_schema old → Executes make_book_text [] old new r → OnOk r (IsMaking ledger_schema new)
makes_book old new (Err e) was h = tt
makes_book old new (Ok count) was h =
    let w = runs_as make_book_text [] old new event_schema was.schema_is CreateTable make_book_is.0 make_book_plain count h in
    let made = does_make old w.tally new.now event_schema make_book_text book_defined was.schema_is make_book_is.2 refl
    (subst (λ t. Does old.step_limit (mode_of old) [] old.now t None CreateTable (Ok (w.tally, new.now))) make_book_is.1 w.changed) in
    record { schema_is = made.schema_is; empty = (made.others.0 ∙ was.empty.0, (made.empty, tt)); inside = w.shown.mode ∙ was.inside }

pub events_commit : (s : State) (db : Trees) → IsMaking no_schema s → ¬ CommitsBy make_events_text [] s db
events_commit s db was = inside_commits make_events_text [] s no_schema was.schema_is CreateTable make_events_is.0 make_events_plain (λ e. cc) (λ name e. cc) was.inside db

pub book_commits : (s : State) (db : Trees) → IsMaking event_schema s → ¬ CommitsBy make_book_text [] s db
book_commits s db was = inside_commits make_book_text [] s event_schema was.schema_is CreateTable make_book_is.0 make_book_plain (λ e. cc) (λ name e. cc) was.inside db

pub terms_commit : (s : State) (params : Values) (db : Trees) → IsMaking ledger_schema s → ¬ CommitsBy add_terms_text params s db
terms_commit s params db was = inside_commits add_terms_text params s ledger_schema was.schema_is (Insert 1 (Given columns 7)) add_terms_is add_terms_plain (λ e. cc) (λ name e. cc) was.inside db

-- ---- adding the terms
put_terms : (db : Trees) (t : PlainTerms) (sources : List Values) → sources ≡ (Null ∷ row_of_terms t) ∷ [] → db 1 ≡ [] → edited db (edit_of db book_table [] Chosen 0 sources) ≡ stored_terms t ∷ []
put_terms db t sources is none =
    ap (λ all. edited db (edit_of db book_table [] Chosen 0 all)) is
    ∙ rw (none, cast_null, cast_number (Some format), cast_number (Some t.limits.journal), cast_number (Some t.limits.budget), cast_number (Some t.limits.last_id), cast_number (Some t.limits.last_serial)) refl

does_put : (s : State) (t : PlainTerms) (text : List ℕ) (tally : Tally) (after : Database) → IsMaking ledger_schema s → AreTerms t → IsDatabase after
    → Does s.step_limit (mode_of s) (row_of_terms t) s.now text None (Insert 1 (Given columns 7)) (Ok (tally, after)) → (after.schema ≡ ledger_schema) × HoldEntries t [] after.trees
does_put s t text tally after was terms sound h =
    let db = s.now.trees in
    let command = Insert 1 (Given columns 7) in
    let done = went (subst (λ t2. Does s.step_limit (mode_of s) (row_of_terms t) (record s.now { schema = t2 }) text None command (Ok (tally, after))) was.schema_is h) in
    let now = ap (λ (p : Tally × Database). p.1) (same_value (went (went done.2).2).2) in
    let given = went done.1 in
    let written = went (went given.2).2 in
    let counted = went written.2 in
    let trees : done.0.trees ≡ written.0 = ap (λ (it : Written). it.trees) (same_value counted.2) ∙ same_value counted.1 in
    let step = one_step ledger_schema _ db written.0 (edit_of db book_table [] Chosen 0 given.0) refl written.1 in
    let schema : after.schema ≡ ledger_schema = ap (λ (d : Database). d.schema) now in
    let other : 0 ≢ 1 = λ e. omega (arith, e) in (
      schema,
      record {
        sound = subst (λ t2. IsSound t2 after.trees) schema sound;
        rows = ap (λ (d : Database). d.trees 0) now ∙ ap (λ (t2 : Trees). t2 0) trees ∙ step.tables.0 other ∙ was.empty.0;
        kept = tt;
        began = ap (λ (d : Database). d.trees 1) now ∙ ap (λ (t2 : Trees). t2 1) trees ∙ step.rows ∙ put_terms db t given.0 given.1.1 was.empty.1.0;
        terms = terms;
      },
    )

pub puts_terms : (old new : State) (t : PlainTerms) (r : Result ℕ Error) → IsMaking ledger_schema old → AreTerms t → Executes add_terms_text (row_of_terms t) old new r → OnOk r (IsAdding t [] new)
puts_terms old new t (Err e) was terms h = tt
puts_terms old new t (Ok count) was terms h =
    let w = runs_as add_terms_text (row_of_terms t) old new ledger_schema was.schema_is (Insert 1 (Given columns 7)) add_terms_is add_terms_plain count h in
    let does = does_put old t (statement_of add_terms_text (understood ledger_schema add_terms_text)) w.tally new.now was terms w.sound w.changed in
    record { schema = does.0; held = does.1; inside = w.shown.mode ∙ was.inside }

-- ---- all of it in one transaction
-- after a transaction that wrote nothing so far, one more step that writes nothing
pub then_quiet : (a b c : State) (P : Type 0) → Survives a b (λ _. ⊥) → (HasCleanDisk b → P) → Survives b c (λ _. P → ⊥) → Survives a c (λ _. ⊥)
then_quiet a b c P one holds two = survives_then a b c _ _ _ (λ _ db no. no) (λ clean db no. no (holds (omega (arith, clean, two.clean)))) one two

-- the states between the steps of a book that is made with these terms and entries
pub record IsMadeBy (s0 s1 s2 s3 s4 s5 : State) (t : PlainTerms) (es : List Entry) : Type 0 where
  pub begins : Survives s0 s1 (λ _. ⊥)
  pub begun : HasCleanDisk s1 → IsMaking no_schema s1
  pub makes_events : Survives s1 s2 (λ _. IsMaking no_schema s1 → ⊥)
  pub events : HasCleanDisk s2 → IsMaking no_schema s1 → IsMaking event_schema s2
  pub makes_book : Survives s2 s3 (λ _. IsMaking event_schema s2 → ⊥)
  pub book : HasCleanDisk s3 → IsMaking event_schema s2 → IsMaking ledger_schema s3
  pub puts_terms : Survives s3 s4 (λ _. IsMaking ledger_schema s3 → ⊥)
  pub terms : HasCleanDisk s4 → IsMaking ledger_schema s3 → IsAdding t [] s4
  pub adds : Survives s4 s5 (λ _. (u : PlainTerms) (fs : List Entry) → IsAdding u fs s4 → ⊥)

module _ (s0 s1 s2 s3 s4 s5 : State) (t : PlainTerms) (es : List Entry) (by : IsMadeBy s0 s1 s2 s3 s4 s5 t es) where
  at_2 : HasCleanDisk s2 → IsMaking event_schema s2
  at_2 clean = by.events clean (by.begun (omega (arith, clean, by.makes_events.clean)))

  at_3 : HasCleanDisk s3 → IsMaking ledger_schema s3
  at_3 clean = by.book clean (at_2 (omega (arith, clean, by.makes_book.clean)))

  at_4 : HasCleanDisk s4 → IsAdding t [] s4
  at_4 clean = by.terms clean (at_3 (omega (arith, clean, by.puts_terms.clean)))

  pub all_added : (HasCleanDisk s5 → (u : PlainTerms) (fs : List Entry) → IsAdding u fs s4 → IsAdding u (fs ++ es) s5) → HasCleanDisk s5 → IsAdding t es s5
  all_added added clean = added clean t [] (at_4 (omega (arith, clean, by.adds.clean)))

  pub quiet : Survives s0 s5 (λ _. ⊥)
  quiet =
      let two = then_quiet s0 s1 s2 (IsMaking no_schema s1) by.begins by.begun by.makes_events in
      let three = then_quiet s0 s2 s3 (IsMaking event_schema s2) two at_2 by.makes_book in
      let four = then_quiet s0 s3 s4 (IsMaking ledger_schema s3) three at_3 by.puts_terms in
      then_quiet s0 s4 s5 (IsAdding t [] s4) four at_4 (survives_weaker s4 s5 _ _ (λ _ db none. none t []) by.adds)

  pub all_committed : (s6 : State) → (HasCleanDisk s5 → (u : PlainTerms) (fs : List Entry) → IsAdding u fs s4 → IsAdding u (fs ++ es) s5)
      → Survives s5 s6 (λ db. (u : PlainTerms) (fs : List Entry) → IsAdding u fs s5 → HoldEntries u fs db) → Survives s0 s6 (HoldEntries t es)
  all_committed s6 added ends = survives_then s0 s5 s6 _ _ _ (λ _ db no. absurd no) (λ clean db held. held t es (all_added added (omega (arith, clean, ends.clean)))) quiet ends
