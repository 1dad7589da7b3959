-- Why the tables are not read.
use Rattle.std.specs.Prelude.{⊤, ◌≡◌, ◌⊎◌, Result, MatchResult}
use Rattle.sqlite.specs.declared.error.Error.{Error}
use Rattle.sqlite.specs.declared.error.Error.TheVariants.{SqlInputError, SqliteFailure}
use Rattle.sqlite.specs.declared.error.ErrorCode.TheVariants.{OutOfMemory}
use Rattle.kept_ledger.specs.declared.fault.ReadFault.{ReadFault}
use Rattle.kept_ledger.specs.declared.fault.ReadFault.TheVariants.{Sql, DoesNotFit, NoBook, LaterFormat, NoTerms}

-- no row is at fault, and the tables are there
abbrev pub IsSqlFault : ReadFault → Type 0
IsSqlFault (Sql error) = ⊤
IsSqlFault (DoesNotFit place) = ⊥
IsSqlFault NoBook = ⊥
IsSqlFault (LaterFormat format) = ⊥
IsSqlFault NoTerms = ⊥

-- memory ran out
abbrev pub IsWant : ReadFault → Type 0
IsWant (Sql error) = error ≡ SqliteFailure OutOfMemory
IsWant _ = ⊥

-- why a question to a table is not answered
abbrev pub query_fault : Error → ReadFault
query_fault (SqlInputError fault) = NoBook
query_fault error = Sql error

-- no table was found, unless SQLite stopped before it looked
abbrev pub IsNoBook : {A : Type 0} → Result A ReadFault → Type 0
IsNoBook read = MatchResult read (λ _. ⊥) (λ fault. IsSqlFault fault ⊎ (fault ≡ NoBook))
