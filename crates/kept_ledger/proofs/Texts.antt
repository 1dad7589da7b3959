-- What the texts of the statements mean.
use Rattle.std.proofs.Common.{◌≡◌, ℕ, pos, negsuc, List, [], ◌∷◌, codes, false, true, None, Ok, Err, Result, is_err, length, ◌≤◌, lit≤, refl}
use Rattle.sqlite_value.specs.declared.value.Value.TheVariants.{Null, Int}
use Rattle.sqlite_value.specs.declared.keys.Collation.TheVariants.{Binary}
use Rattle.sqlite_value.specs.Keys.{ascending}
use Rattle.sqlite_sql.specs.Term.{Term, lit, col}
use Rattle.sqlite_sql.specs.Query.{Query, inner, end}
use Rattle.sqlite_schema.specs.declared.schema.Schema.{Schema}
use Rattle.sqlite_schema.specs.declared.command.Source.TheVariants.{Values as Given}
use Rattle.sqlite_schema.specs.declared.command.Command.TheVariants.{Insert, Select, CreateTable, Begin, Commit, Rollback}
use Rattle.sqlite_resolve.specs.Compile.{table_defined_by}
use Rattle.sqlite_resolve.specs.declared.compiled.Compiled.{Compiled}
use Rattle.sqlite_resolve.specs.declared.error.CompileError.{CompileError}
use Rattle.sqlite_tied.specs.Compute.{everything}
use Rattle.sqlite.specs.Listing.{understood, reads_listing, listing_schema}
use Rattle.sqlite.proofs.Callers.{IsPlain, command_of, statement_of}
pub use Rattle.kept_ledger.specs.Table.{read_text, read_terms_text}
pub use Rattle.kept_ledger.specs.Statements.{make_events_text, make_book_text, add_terms_text, add_text, begin_text, end_text}
use Rattle.kept_ledger.specs.Table.{event_table, book_defined, ledger_schema, event_schema, no_schema}

-- ---- the texts
abbrev pub rollback_text : List ℕ
rollback_text = codes "ROLLBACK"

abbrev pub terms : List Term
terms = lit Null ∷ lit Null ∷ col 0 0 ∷ col 0 1 ∷ col 0 2 ∷ col 0 3 ∷ col 0 4 ∷ col 0 5 ∷ col 0 6 ∷ col 0 7 ∷ col 0 8 ∷ col 0 9 ∷ col 0 10 ∷ col 0 11 ∷ col 0 12 ∷ col 0 13 ∷ col 0 14 ∷ col 0 15 ∷ col 0 16 ∷ col 0 17 ∷ col 0 18 ∷ col 0 19 ∷ []

abbrev pub columns : List Term
columns = lit Null ∷ col 0 0 ∷ col 0 1 ∷ col 0 2 ∷ col 0 3 ∷ col 0 4 ∷ col 0 5 ∷ []

abbrev pub query : Query
query = record {
  from = inner 0 end;
  filter = [];
  group = None;
  project = col 1 0 ∷ col 1 3 ∷ col 1 4 ∷ col 1 5 ∷ col 1 6 ∷ col 1 7 ∷ col 1 8 ∷ col 1 9 ∷ col 1 10 ∷ col 1 11 ∷ col 1 12 ∷ col 1 13 ∷ col 1 14 ∷ col 1 15 ∷ col 1 16 ∷ col 1 17 ∷ col 1 18 ∷ col 1 19 ∷ col 1 20 ∷ col 1 21 ∷ [];
  distinct = false;
  collations = [];
  order = (col 1 0, ascending Binary) ∷ [];
  limit = lit (Int (negsuc 0));
  offset = lit (Int (pos 0));
}

abbrev pub terms_query : Query
terms_query = record {
  from = inner 1 end;
  filter = [];
  group = None;
  project = col 1 1 ∷ col 1 2 ∷ col 1 3 ∷ col 1 4 ∷ col 1 5 ∷ col 1 6 ∷ [];
  distinct = false;
  collations = [];
  order = [];
  limit = lit (Int (negsuc 0));
  offset = lit (Int (pos 0));
}

abbrev pub terms_names : List (List ℕ)
terms_names = codes "format" ∷ codes "journal" ∷ codes "budget" ∷ codes "last_id" ∷ codes "last_serial" ∷ codes "devices" ∷ []

abbrev pub names : List (List ℕ)
names = codes "place" ∷ codes "serial" ∷ codes "prog" ∷ codes "verb" ∷ codes "map" ∷ codes "key" ∷ codes "value" ∷ codes "flag" ∷ codes "at" ∷ codes "size" ∷ codes "op" ∷ codes "target" ∷ codes "name" ∷ codes "path" ∷ codes "type" ∷ codes "key_size" ∷ codes "value_size" ∷ codes "entries" ∷ codes "flags" ∷ codes "code" ∷ []

pub make_events_is : (command_of (understood no_schema make_events_text) ≡ CreateTable) × (statement_of make_events_text (understood no_schema make_events_text) ≡ make_events_text) × (table_defined_by make_events_text ≡ Ok event_table)
unfolding understood everything
make_events_is = (refl, refl, refl)

pub make_book_is : (command_of (understood event_schema make_book_text) ≡ CreateTable) × (statement_of make_book_text (understood event_schema make_book_text) ≡ make_book_text) × (table_defined_by make_book_text ≡ Ok book_defined)
unfolding understood everything
make_book_is = (refl, refl, refl)

pub add_terms_is : command_of (understood ledger_schema add_terms_text) ≡ Insert 1 (Given columns 7)
unfolding understood everything
add_terms_is = refl

pub add_is : command_of (understood ledger_schema add_text) ≡ Insert 0 (Given terms 22)
unfolding understood everything
add_is = refl

pub read_terms_is : (command_of (understood ledger_schema read_terms_text) ≡ Select (record { lets = []; body = terms_query }) terms_names) × (reads_listing ledger_schema read_terms_text ≡ false)
unfolding understood everything
read_terms_is = (refl, refl)

pub read_is : (command_of (understood ledger_schema read_text) ≡ Select (record { lets = []; body = query }) names) × (reads_listing ledger_schema read_text ≡ false)
unfolding understood everything
read_is = (refl, refl)

-- these mean the same whatever the tables
pub begin_is : (schema : Schema) → command_of (understood schema begin_text) ≡ Begin
unfolding understood everything
begin_is schema = refl

pub end_is : (schema : Schema) → command_of (understood schema end_text) ≡ Commit
unfolding understood everything
end_is schema = refl

pub make_events_plain : IsPlain (understood no_schema make_events_text)
unfolding understood everything
make_events_plain = (refl, refl)

pub make_book_plain : IsPlain (understood event_schema make_book_text)
unfolding understood everything
make_book_plain = (refl, refl)

pub add_terms_plain : IsPlain (understood ledger_schema add_terms_text)
unfolding understood everything
add_terms_plain = (refl, refl)

pub add_plain : IsPlain (understood ledger_schema add_text)
unfolding understood everything
add_plain = (refl, refl)

pub read_terms_plain : IsPlain (understood ledger_schema read_terms_text)
unfolding understood everything
read_terms_plain = (refl, refl)

pub read_plain : IsPlain (understood ledger_schema read_text)
unfolding understood everything
read_plain = (refl, refl)

pub begin_plain : (schema : Schema) → IsPlain (understood schema begin_text)
unfolding understood everything
begin_plain schema = (refl, refl)

pub end_plain : (schema : Schema) → IsPlain (understood schema end_text)
unfolding understood everything
end_plain schema = (refl, refl)

-- a whole text, with no parameters, that undoes a transaction
abbrev pub RollsBack : List ℕ → Result Compiled CompileError → Type 0
RollsBack sql (Ok c) = (length sql ≤ c.tail) × (c.names ≡ []) × (c.formats ≡ []) × (c.returning ≡ None) × (c.command ≡ Rollback)
RollsBack sql (Err e) = ⊥

pub rolls_back : (schema : Schema) → RollsBack rollback_text (understood schema rollback_text)
unfolding understood everything
rolls_back schema = (lit≤ tt, refl, refl, refl, refl)

-- if there is no table, none is read
pub bare_terms : is_err (understood no_schema read_terms_text) ≡ true
unfolding understood listing_schema everything
bare_terms = refl

pub bare_events : is_err (understood no_schema read_text) ≡ true
unfolding understood listing_schema everything
bare_events = refl
