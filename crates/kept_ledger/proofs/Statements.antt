-- What a statement of one text does, and what it writes to the disk.
use Rattle.std.proofs.Common.{◌≡◌, ◌≢◌, ◌⊎◌, inl, inr, ℕ, List, true, None, Ok, Err, Result, is_err, refl, sym, ap, subst, subst₂, ◌∙◌, append-nil}
use Rattle.sqlite_value.specs.Order.{Row as Values}
use Rattle.sqlite_trees.specs.Tree.{Trees}
use Rattle.sqlite_trees.specs.declared.error.StoreError.{StoreError}
use Rattle.sqlite_trees.specs.declared.error.StoreError.TheVariants.{OutOfMemory, Io, Corrupt, Full, Broken, Unstorable}
use Rattle.sqlite_schema.specs.declared.schema.Schema.{Schema}
use Rattle.sqlite_schema.specs.declared.command.Command.{Command}
use Rattle.sqlite_schema.specs.declared.command.Command.TheVariants.{Select, Rows, Commit, Release}
use Rattle.sqlite_resolve.specs.declared.compiled.Compiled.{Compiled}
use Rattle.sqlite_resolve.specs.declared.error.CompileError.{CompileError}
use Rattle.sqlite.specs.declared.error.Error.{Error}
use Rattle.sqlite.specs.declared.error.Error.TheVariants.{SqlInputError}
use Rattle.sqlite.specs.Listing.{understood}
use Rattle.sqlite.specs.Effect.{Database, RefusesToRead}
use Rattle.sqlite.specs.State.{State, MayCommit, CommitsBy, IsNotRun, Shown, FailsToShow, FailsToQuery, store_error}
use Rattle.sqlite.proofs.Callers.{IsPlain, command_of, statement_of}
use Rattle.kept_ledger.specs.declared.fault.ReadFault.TheVariants.{NoBook}
use Rattle.kept_ledger.specs.Faults.{IsSqlFault, query_fault}

-- a part that gave a value did not stop on the way
pub went : {B E R : Type 0} {b : B} {Stops : E → Type 0} → ((stop : E) × Stops stop × (Ok b ≡ Err stop)) ⊎ R → R
went (inl stopped) = absurd (let e = stopped.2 in cc)
went (inr on) = on

pub same_value : {B E : Type 0} {a b : B} → ◌≡◌ {A = Result B E} (Ok a) (Ok b) → a ≡ b
same_value e = cc

-- ---- what is written to the disk by a statement of one text
pub commits_as : (sql : List ℕ) (params : Values) (s : State) (schema : Schema) → s.now.schema ≡ schema → (command : Command) → command_of (understood schema sql) ≡ command
    → IsPlain (understood schema sql) → (db : Trees) → CommitsBy sql params s db → MayCommit s None command (statement_of sql (understood schema sql)) params db
unfolding CommitsBy
commits_as sql params s schema has command is plain db h =
    let known = sym h.1.is ∙ ap (λ t. understood t sql) has in
    let bare = subst IsPlain (sym known) plain in
    subst₂ (λ k t. MayCommit s None k t params db) (ap command_of known ∙ is) (ap (statement_of sql) known) (rw (bare.0, bare.1, append-nil params) at h.2)

-- in a transaction none writes but one that ends it
pub inside_commits : (sql : List ℕ) (params : Values) (s : State) (schema : Schema) → s.now.schema ≡ schema → (command : Command) → command_of (understood schema sql) ≡ command
    → IsPlain (understood schema sql) → command ≢ Commit → ((name : List ℕ) → command ≢ Release name) → s.in_transaction ≡ true → (db : Trees) → ¬ CommitsBy sql params s db
inside_commits sql params s schema has command is plain no_commit no_release inside db h = elim (commits_as sql params s schema has command is plain db h) [
  | inl other ↦ elim other.0 [ inl e ↦ no_commit e | inr e ↦ no_release e.0 e.2 ]
  | inr may ↦ absurd (let out = may.0 in cc)
]

-- ---- why a question is not answered
never_both : (r : Result Compiled CompileError) (fault : CompileError) → IsPlain r → r ≡ Err fault → ⊥
never_both (Ok c) fault plain e = cc
never_both (Err other) fault plain e = plain

stops_sql : (cause : StoreError) → IsSqlFault (query_fault (store_error cause))
stops_sql OutOfMemory = tt
stops_sql Io = tt
stops_sql Corrupt = tt
stops_sql Full = tt
stops_sql Broken = tt
stops_sql Unstorable = tt

-- this error is told as SQLite's
told : (e other : Error) → e ≡ other → IsSqlFault (query_fault other) → IsSqlFault (query_fault e)
told e other is h = subst (λ x. IsSqlFault (query_fault x)) (sym is) h

refuses_sql : (limit : _) (command : Command) (db : Database) (params : Values) (e : Error) → RefusesToRead limit command db params e → IsSqlFault (query_fault e)
refuses_sql limit (Select q names) db params e (inl h) = told e _ h.0 tt
refuses_sql limit (Select q names) db params e (inr (inl h)) = told e _ h.0 tt
refuses_sql limit (Select q names) db params e (inr (inr h)) = told e _ h.0 tt
refuses_sql limit (Rows values width names) db params e h = told e _ h.0 tt
refuses_sql limit _ db params e h = told e _ h tt

not_run_sql : (sql : List ℕ) (params : Values) (old new : State) (e : Error) → IsPlain (understood old.now.schema sql) → IsNotRun old new sql params e → IsSqlFault (query_fault e)
unfolding IsNotRun
not_run_sql sql params old new e plain (inl (inl h, same)) = absurd (never_both _ h.0 plain h.1)
not_run_sql sql params old new e plain (inl (inr (c, is, inl h), same)) = told e _ h.1 tt
not_run_sql sql params old new e plain (inl (inr (c, is, inr (inl h)), same)) = told e _ h.1 tt
not_run_sql sql params old new e plain (inl (inr (c, is, inr (inr h)), same)) = told e _ h.1 tt
not_run_sql sql params old new e plain (inr h) = told e _ h.1 (stops_sql h.0)

-- if the text is understood, SQLite stops it for another reason
pub query_faults : (sql : List ℕ) (params : Values) (old new : State) (schema : Schema) (e : Error) → old.now.schema ≡ schema → IsPlain (understood schema sql) → FailsToQuery sql params old new e → IsSqlFault (query_fault e)
unfolding FailsToQuery
query_faults sql params old new schema e has plain (inl h) = not_run_sql sql params old new e (subst (λ t. IsPlain (understood t sql)) (sym has) plain) h
query_faults sql params old new schema e has plain (inr (c, it, h)) =
    let known = sym it.is ∙ ap (λ t. understood t sql) has in
    let bare = subst IsPlain (sym known) plain in
    let shows = subst (FailsToShow old new sql c _ e) bare.0 h in
    refuses_sql old.step_limit c.command shows.0 _ e shows.2

pub told_either : (e : Error) → IsSqlFault (query_fault e) ⊎ (query_fault e ≡ NoBook)
told_either (SqlInputError fault) = inr refl
told_either _ = inl tt

-- if it is not understood, there is no answer
pub never_shown : (sql : List ℕ) (params : Values) (old new : State) (schema : Schema) (rows : List Values) → old.now.schema ≡ schema → is_err (understood schema sql) ≡ true → Shown sql params old new rows → ⊥
unfolding Shown
never_shown sql params old new schema rows has none h =
    let known = sym h.1.is ∙ ap (λ t. understood t sql) has in
    absurd (let both = ap is_err known ∙ none in cc)
