-- The statements that add events to a book, and make one, and why SQLite does not carry one out.
use Rattle.std.specs.Prelude.{◌≡◌, ◌≤◌, ◌⊎◌, ℕ, List, [], ◌∷◌, codes, Err}
use Rattle.sqlite_value.specs.Order.{Row as Values}
use Rattle.sqlite_schema.specs.declared.schema.Schema.{Schema}
use Rattle.sqlite.specs.declared.error.Error.{Error}
use Rattle.sqlite.specs.declared.error.Error.TheVariants.{SqliteFailure}
use Rattle.sqlite.specs.declared.error.ErrorCode.TheVariants.{OutOfMemory}
use Rattle.sqlite_trees.specs.declared.store.Store.{Ghosts}
use Rattle.sqlite.specs.State.{Executes}
use Rattle.sqlite.specs.Held.{Held, state}
use Rattle.kept_ledger.specs.Table.{no_schema, event_schema, ledger_schema}

abbrev pub make_events_text : List ℕ
make_events_text = codes "CREATE TABLE event (place INTEGER PRIMARY KEY, time INTEGER NOT NULL, serial INTEGER, prog INTEGER, verb TEXT NOT NULL, map INTEGER, key BLOB, value BLOB, flag INTEGER, at INTEGER, size INTEGER, op INTEGER, target INTEGER, name TEXT, path TEXT, type TEXT, key_size INTEGER, value_size INTEGER, entries INTEGER, flags INTEGER, code BLOB) STRICT"

abbrev pub make_book_text : List ℕ
make_book_text = codes "CREATE TABLE book (format INTEGER NOT NULL, journal INTEGER NOT NULL, budget INTEGER NOT NULL, last_id INTEGER NOT NULL, last_serial INTEGER NOT NULL, devices TEXT NOT NULL) STRICT"

abbrev pub add_terms_text : List ℕ
add_terms_text = codes "INSERT INTO book (format, journal, budget, last_id, last_serial, devices) VALUES (?1, ?2, ?3, ?4, ?5, ?6)"

abbrev pub add_text : List ℕ
add_text = codes "INSERT INTO event (time, serial, prog, verb, map, key, value, flag, at, size, op, target, name, path, type, key_size, value_size, entries, flags, code) VALUES (?1, ?2, ?3, ?4, ?5, ?6, ?7, ?8, ?9, ?10, ?11, ?12, ?13, ?14, ?15, ?16, ?17, ?18, ?19, ?20)"

abbrev pub begin_text : List ℕ
begin_text = codes "BEGIN"

abbrev pub end_text : List ℕ
end_text = codes "COMMIT"

-- ---- in which order
-- a statement, and the tables over which it is asked
pub record Statement : Type 0 where
  pub over : Schema
  pub text : List ℕ

abbrev pub asked : Schema → List ℕ → Statement
asked schema sql = record { over = schema; text = sql }

-- in a transaction
abbrev pub added : List Statement
added = asked ledger_schema add_text ∷ []

-- events are added to a book
abbrev pub adding : List Statement
adding = asked ledger_schema begin_text ∷ asked ledger_schema add_text ∷ asked ledger_schema end_text ∷ []

-- a book is made, with its first events
abbrev pub making : List Statement
making =
    asked no_schema begin_text ∷ asked no_schema make_events_text ∷ asked event_schema make_book_text ∷ asked ledger_schema add_terms_text
    ∷ asked ledger_schema add_text ∷ asked ledger_schema end_text ∷ []

-- ---- why one is not carried out
abbrev pub IsOneOf : List Statement → Schema → List ℕ → Type 0
IsOneOf [] schema text = ⊥
IsOneOf (it ∷ rest) schema text = ((schema ≡ it.over) × (text ≡ it.text)) ⊎ IsOneOf rest schema text

module _ {S : Type 0} (g : Ghosts S) where
  -- between these two moments of a connection SQLite answered one of the statements with this error
  pub record IsAnswered (statements : List Statement) (old new : Held S) (e : Error) : Type 0 where
    pub text : List ℕ
    pub params : Values
    pub before : Held S
    pub after : Held S
    pub is_one : IsOneOf statements (state g before).now.schema text
    pub answers : Executes text params (state g before) (state g after) (Err e)
    pub since : (state g old).faults ≤ (state g before).faults
    pub until : (state g after).faults ≤ (state g new).faults

  -- memory ran out, or SQLite answered so
  abbrev pub HasReason : List Statement → Held S → Held S → Error → Type 0
  HasReason statements old new e = (e ≡ SqliteFailure OutOfMemory) ⊎ IsAnswered statements old new e
