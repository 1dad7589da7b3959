-- The log of a kept book: what a call writes of it.
use Rattle.std.specs.Prelude.{◌≡◌, false, ℕ, List, Option, Result, Ok, Err}
use Rattle.sqlite.specs.State.{State, HasCleanDisk}
use Rattle.sqlite.specs.Files.{file_state}
use Rattle.sqlite.specs.declared.error.Error.{Error}
use Rattle.kept_ledger.specs.Ledger.{Entry, IsLedgerOf}
use Rattle.kept_ledger.specs.Table.{no_schema}
use Rattle.kept_ledger.specs.TermsView.{PlainTerms}
use Rattle.kept_log.specs.Telling.{TellsLog}
use Rattle.kept_log.specs.declared.telling.LogFault.{LogFault}
use Rattle.kept_lines.specs.declared.databases.Database.{Database}
use Rattle.kept_host.specs.declared.fault.LogInFileFault.{LogInFileFault}
use Rattle.kept_host.specs.declared.fault.LogInFileFault.TheVariants.{Unopened, Log}

-- of a database that has no table nothing is written, and of one with a ledger the log of its last events
pub record LogsKept (most : Option ℕ) (old new : State) (out_old out_new : Option (List ℕ)) (result : Result (Unit {0}) LogFault) : Type 0 where
  pub bare : old.in_transaction ≡ false → old.now.schema ≡ no_schema → out_new ≡ out_old
  pub told : HasCleanDisk new → (t : PlainTerms) (es : List Entry) → IsLedgerOf t es old → TellsLog t es most new out_old out_new result

-- so on a connection that was opened
pub record LogsOpened (may_open : Result Database Error → Type 0) (most : Option ℕ) (out_old out_new : Option (List ℕ)) (result : Result (Unit {0}) LogFault) : Type 0 where
  pub old : Database
  pub new : Database
  pub opened : may_open (Ok old)
  pub logs : LogsKept most (file_state old.conn) (file_state new.conn) out_old out_new result

-- or the file was not opened, and nothing was written
abbrev pub LogsInFile : (Result Database Error → Type 0) → Option ℕ → Option (List ℕ) → Option (List ℕ) → Result (Unit {0}) LogInFileFault → Type 0
LogsInFile may_open most out_old out_new (Ok done) = LogsOpened may_open most out_old out_new (Ok done)
LogsInFile may_open most out_old out_new (Err (Unopened error)) = may_open (Err error) × (out_new ≡ out_old)
LogsInFile may_open most out_old out_new (Err (Log fault)) = LogsOpened may_open most out_old out_new (Err fault)
