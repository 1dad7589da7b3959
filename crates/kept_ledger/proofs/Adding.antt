-- Events that are added in a transaction, the transaction round them, and what it commits.
use Rattle.std.proofs.Common.{◌≡◌, inl, inr, ℕ, List, [], ◌∷◌, ◌++◌, None, Ok, Err, Result, refl, sym, ap, subst, ◌∙◌, OnOk, IsTrue, append_assoc, rules, ◌≢◌, arith, Some}
use Rattle.std.proofs.lemmas.List.{map-append}
use Rattle.sqlite_schema.specs.declared.schema.Schema.{Schema}
use Rattle.sqlite_schema.specs.declared.command.Command.TheVariants.{Begin, Commit, Insert}
use Rattle.sqlite_schema.specs.declared.command.Source.TheVariants.{Values as Given}
use Rattle.sqlite_value.specs.declared.value.Value.{Value}
use Rattle.sqlite_value.specs.declared.value.Value.TheVariants.{Null}
use Rattle.sqlite_value.specs.Order.{Row as Values}
use Rattle.sqlite_trees.specs.Tree.{Trees}
use Rattle.sqlite_rules.specs.Edit.{edit_of, edited}
use Rattle.sqlite_rules.specs.declared.error.Rowids.TheVariants.{Chosen}
use Rattle.sqlite_catalog.specs.Listing.{IsSound}
use Rattle.sqlite.specs.declared.error.Error.{Error}
use Rattle.sqlite.specs.Does.{Tally, Does}
use Rattle.sqlite.specs.Rows.{Written}
use Rattle.sqlite.specs.Listing.{understood}
use Rattle.sqlite.specs.Effect.{Database, IsDatabase}
use Rattle.sqlite.specs.State.{State, mode_of, Writes, Executes, CommitsBy}
use Rattle.sqlite.proofs.Callers.{statement_of, runs_as, one_step}
use Rattle.kept_event.specs.declared.event.KeptEvent.{KeptEvent}
use Rattle.kept_event.specs.Row.{row_of}
use Rattle.kept_ledger.specs.Table.{event_table, no_schema, ledger_schema}
use Rattle.kept_ledger.specs.TermsView.{PlainTerms}
use Rattle.kept_ledger.specs.Ledger.{Entry, IsKept, AreKept, events_of, stamped, params_of, rows_from, Hold, HoldEntries, IsLedger, IsLedgerOf, IsAdding, IsUnmade, IsMaking, LeavesOnly}
use Rattle.kept_ledger.proofs.Places.{next_place, put_last}
use Rattle.kept_ledger.proofs.ColumnsRead.{cast_null, cast_number, cast_text, cast_kind}
use Rattle.kept_ledger.proofs.Texts.{add_text, begin_text, end_text, add_is, add_plain, begin_is, begin_plain, end_is, end_plain, terms}
use Rattle.kept_ledger.proofs.Statements.{went, same_value, commits_as, inside_commits}

-- ---- events and their times
events_of-stamped : (time : ℕ) (events : List KeptEvent) → events_of (stamped time events) ≡ events
events_of-stamped time [] = refl
events_of-stamped time (e ∷ es) = ap (λ more. e ∷ more) (events_of-stamped time es)

pub with_more : (es : List Entry) (events more : List KeptEvent) (time : ℕ) → events_of es ≡ events → events_of (es ++ stamped time more) ≡ events ++ more
with_more es events more time are =
    map-append (λ (e : Entry). e.event) es (stamped time more) ∙ ap (λ front. front ++ events_of (stamped time more)) are ∙ ap (λ back. events ++ back) (events_of-stamped time more)

pub one_more : (es : List Entry) (before after : List KeptEvent) (event : KeptEvent) (time : ℕ) → after ≡ before ++ event ∷ []
    → (es ++ stamped time before) ++ stamped time (event ∷ []) ≡ es ++ stamped time after
one_more es before after event time is =
    let assoc : (es ++ stamped time before) ++ stamped time (event ∷ []) ≡ es ++ (stamped time before ++ stamped time (event ∷ [])) = search (rules, append_assoc) in
    assoc ∙ ap (λ t. es ++ t) (sym (ap (stamped time) is ∙ map-append (λ e. record { time = time; event = e }) before (event ∷ [])))

pub ok_first : {A E : Type 0} (P Q : Type 0) (r : Result A E) → OnOk r (P × Q) → OnOk r P
ok_first P Q (Ok it) h = h.0
ok_first P Q (Err e) h = tt

-- ---- adding an event
all_kept : (es : List Entry) (e : Entry) → AreKept es → IsKept e → AreKept (es ++ e ∷ [])
all_kept [] e kept one = (one, tt)
all_kept (first ∷ es) e kept one = (kept.0, all_kept es e kept.1 one)

added : (db : Trees) (e : Entry) (es : List Entry) (sources : List Values) → sources ≡ (Null ∷ Null ∷ params_of e) ∷ [] → db 0 ≡ rows_from 1 es
    → edited db (edit_of db event_table [] Chosen 0 sources) ≡ rows_from 1 (es ++ e ∷ [])
added db e es sources is held =
    let row = row_of e.event in
    ap (λ all. edited db (edit_of db event_table [] Chosen 0 all)) is
    ∙ rw (
      held,
      cast_null,
      cast_number (Some e.time),
      cast_number row.serial,
      cast_number row.prog,
      cast_number row.map,
      cast_number row.flag,
      cast_number row.at,
      cast_number row.size,
      cast_number row.op,
      cast_number row.target,
      cast_text row.name,
      cast_text row.path,
      cast_kind row.kind,
      cast_number row.key_size,
      cast_number row.value_size,
      cast_number row.entries,
      cast_number row.flags,
      next_place es,
    ) (put_last 1 _ e es refl)

-- ---- if there is no table
pub begins_unmade : (old new : State) (r : Result ℕ Error) → IsUnmade old → Executes begin_text [] old new r → OnOk r (IsMaking no_schema new)
begins_unmade old new (Err e) was h = tt
begins_unmade old new (Ok count) was h =
    let ran = runs_as begin_text [] old new no_schema was.schema Begin (begin_is no_schema) (begin_plain no_schema) count h in
    record { schema_is = ap (λ (d : Database). d.schema) ran.1.now_is ∙ was.schema; empty = tt; inside = ran.1.mode }

-- a transaction that begins writes nothing
pub begin_commits : (s : State) (schema : Schema) (db : Trees) → s.now.schema ≡ schema → ¬ CommitsBy begin_text [] s db
begin_commits s schema db has h = elim (commits_as begin_text [] s schema has Begin (begin_is schema) (begin_plain schema) db h) [
  | inl other ↦ elim other.0 [ inl e ↦ absurd cc | inr e ↦ absurd (let is = e.2 in cc) ]
  | inr may ↦ absurd (let is = may.3 in cc)
]

module _ (t : PlainTerms) where
  does_add : (s : State) (e : Entry) (es : List Entry) (text : List ℕ) (tally : Tally) (after : Database) → s.now.schema ≡ ledger_schema → HoldEntries t es s.now.trees → IsKept e → IsDatabase after
      → Does s.step_limit (mode_of s) (params_of e) s.now text None (Insert 0 (Given terms 22)) (Ok (tally, after))
      → (after.schema ≡ ledger_schema) × HoldEntries t (es ++ e ∷ []) after.trees
  does_add s e es text tally after has held one sound h =
      let db = s.now.trees in
      let command = Insert 0 (Given terms 22) in
      let done = went (subst (λ u. Does s.step_limit (mode_of s) (params_of e) (record s.now { schema = u }) text None command (Ok (tally, after))) has h) in
      let now = ap (λ (p : Tally × Database). p.1) (same_value (went (went done.2).2).2) in
      let given = went done.1 in
      let written = went (went given.2).2 in
      let counted = went written.2 in
      let trees : done.0.trees ≡ written.0 = ap (λ (it : Written). it.trees) (same_value counted.2) ∙ same_value counted.1 in
      let step = one_step ledger_schema _ db written.0 (edit_of db event_table [] Chosen 0 given.0) refl written.1 in
      let other : 1 ≢ 0 = λ e. omega (arith, e) in
      let schema : after.schema ≡ ledger_schema = ap (λ (d : Database). d.schema) now in (
        schema,
        record {
          sound = subst (λ u. IsSound u after.trees) schema sound;
          rows = ap (λ (d : Database). d.trees 0) now ∙ ap (λ (u : Trees). u 0) trees ∙ step.rows ∙ added db e es given.0 given.1.1 held.rows;
          kept = all_kept es e held.kept one;
          began = ap (λ (d : Database). d.trees 1) now ∙ ap (λ (u : Trees). u 1) trees ∙ step.tables.1.0 other ∙ held.began;
          terms = held.terms;
        },
      )

  pub added_by : (old new : State) (e : Entry) (es : List Entry) (count : ℕ) → old.now.schema ≡ ledger_schema → HoldEntries t es old.now.trees → IsKept e → Executes add_text (params_of e) old new (Ok count)
      → Writes old new None (Insert 0 (Given terms 22)) (statement_of add_text (understood ledger_schema add_text)) (params_of e) count
      × (new.now.schema ≡ ledger_schema) × HoldEntries t (es ++ e ∷ []) new.now.trees
  added_by old new e es count has held one h =
      let w = runs_as add_text (params_of e) old new ledger_schema has (Insert 0 (Given terms 22)) add_is add_plain count h in
      let does = does_add old e es (statement_of add_text (understood ledger_schema add_text)) w.tally new.now has held one w.sound w.changed in
      (w, does.0, does.1)

  -- ---- the transaction
  pub begins : (old new : State) (es : List Entry) (r : Result ℕ Error) → IsLedgerOf t es old → Executes begin_text [] old new r → OnOk r (IsAdding t es new)
  begins old new es (Err e) was h = tt
  begins old new es (Ok count) was h =
      let ran = runs_as begin_text [] old new ledger_schema was.schema Begin (begin_is ledger_schema) (begin_plain ledger_schema) count h in
      let now = ran.1.now_is in
      record { schema = ap (λ (d : Database). d.schema) now ∙ was.schema; held = subst (λ (d : Database). HoldEntries t es d.trees) (sym now) was.held; inside = ran.1.mode }

  pub adds_inside : (old new : State) (e : Entry) (es : List Entry) (r : Result ℕ Error) → IsAdding t es old → IsKept e → Executes add_text (params_of e) old new r → OnOk r (IsAdding t (es ++ e ∷ []) new)
  adds_inside old new e es (Err error) was one h = tt
  adds_inside old new e es (Ok count) was one h =
      let w = added_by old new e es count was.schema was.held one h in
      record { schema = w.1; held = w.2; inside = w.0.shown.mode ∙ was.inside }

  -- nothing is committed in a transaction, whatever is added
  pub add_commits : (s : State) (params : List Value) (es : List Entry) (db : Trees) → IsAdding t es s → ¬ CommitsBy add_text params s db
  add_commits s params es db was = inside_commits add_text params s ledger_schema was.schema (Insert 0 (Given terms 22)) add_is add_plain (λ e. cc) (λ name e. cc) was.inside db

  pub ends : (old new : State) (es : List Entry) (r : Result ℕ Error) → IsAdding t es old → Executes end_text [] old new r → OnOk r (IsLedgerOf t es new × IsTrue new.is_open)
  ends old new es (Err e) was h = tt
  ends old new es (Ok count) was h =
      let ran = runs_as end_text [] old new ledger_schema was.schema Commit (end_is ledger_schema) (end_plain ledger_schema) count h in
      let now = ran.1.now_is in (
        record {
          schema = ap (λ (d : Database). d.schema) now ∙ was.schema;
          held = subst (λ (d : Database). HoldEntries t es d.trees) (sym now) was.held;
          committed = ran.1.committed_is ∙ sym now;
          autocommit = ran.1.mode;
        },
        ran.1.is_open,
      )

  pub end_commits : (s : State) (es : List Entry) (db : Trees) → IsAdding t es s → CommitsBy end_text [] s db → HoldEntries t es db
  end_commits s es db was h = elim (commits_as end_text [] s ledger_schema was.schema Commit (end_is ledger_schema) (end_plain ledger_schema) db h) [
    | inl done ↦ subst (HoldEntries t es) (sym done.1) was.held
    | inr may ↦ absurd (let out = may.0 in let inside = was.inside in cc)
  ]

  -- ---- what a commit leaves
  pub hold_more : (es : List Entry) (events more : List KeptEvent) (time : ℕ) (db : Trees) → events_of es ≡ events → HoldEntries t (es ++ stamped time more) db → Hold t (events ++ more) db
  hold_more es events more time db are held = record { entries = es ++ stamped time more; are = with_more es events more time are; held = held }

  pub ledger_more : (s : State) (es : List Entry) (events more : List KeptEvent) (time : ℕ) → events_of es ≡ events → IsLedgerOf t (es ++ stamped time more) s → IsLedger t (events ++ more) s
  ledger_more s es events more time are ledger = record { entries = es ++ stamped time more; are = with_more es events more time are; ledger = ledger }

  pub leaves_more : (s : State) (es : List Entry) (events more : List KeptEvent) (time : ℕ) → events_of es ≡ events → IsLedgerOf t (es ++ stamped time more) s → IsTrue s.is_open
      → ((db : Trees) → IsTrue s.is_open → s.may_leave db → db ≡ s.committed.trees) → LeavesOnly (Hold t (events ++ more)) s
  leaves_more s es events more time are ledger is_open settled = λ db may.
      let same : db ≡ s.now.trees = settled db is_open may ∙ ap (λ (d : Database). d.trees) ledger.committed in
      hold_more es events more time db are (subst (HoldEntries t (es ++ stamped time more)) (sym same) ledger.held)

  pub ledger_after : (s : State) (es : List Entry) (events more : List KeptEvent) (time : ℕ) → events_of es ≡ events → {A : Type 0} (r : Result A Error) → OnOk r (IsLedgerOf t (es ++ stamped time more) s × IsTrue s.is_open)
      → OnOk r (IsLedger t (events ++ more) s)
  ledger_after s es events more time are (Err e) h = tt
  ledger_after s es events more time are (Ok done) h = ledger_more s es events more time are h.0

  pub leaves_after : (s : State) (es : List Entry) (events more : List KeptEvent) (time : ℕ) → events_of es ≡ events → {A : Type 0} (r : Result A Error) → OnOk r (IsLedgerOf t (es ++ stamped time more) s × IsTrue s.is_open)
      → ((db : Trees) → IsTrue s.is_open → s.may_leave db → db ≡ s.committed.trees) → OnOk r (LeavesOnly (Hold t (events ++ more)) s)
  leaves_after s es events more time are (Err e) h settled = tt
  leaves_after s es events more time are (Ok done) h settled = leaves_more s es events more time are h.0 h.1 settled
