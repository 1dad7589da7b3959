-- What a call that reads or tells the log of a ledger does.
use Rattle.std.specs.Prelude.{◌≡◌, ⊤, ℕ, List, Vec, Option, Result, Ok, Err, OnOk, IfOk, IfErr}
use Rattle.std.specs.declared.alloc.Global.{Global}
use Rattle.std.specs.Io.KnownBytes.{Appends}
use Rattle.sqlite.specs.State.{State, HasCleanDisk, Survives}
use Rattle.console_text.specs.Written.{WritesFront}
use Rattle.kept_ledger.specs.declared.fault.ReadFault.{ReadFault}
use Rattle.kept_ledger.specs.Faults.{IsSqlFault}
use Rattle.kept_ledger.specs.TermsView.{PlainTerms}
use Rattle.kept_ledger.specs.Ledger.{Entry, IsLedgerOf}
use Rattle.kept_log.specs.Timed.{last_of}
use Rattle.kept_log.specs.Logged.{AreLogged}
use Rattle.kept_log.specs.LogText.{log_text}
use Rattle.kept_log.specs.declared.rows.LogRow.{LogRow}
use Rattle.kept_log.specs.declared.telling.LogFault.{LogFault}
use Rattle.kept_log.specs.declared.telling.LogFault.TheVariants.{Unread, Unwritten}

-- it reads the log of the last so many events of a ledger, which stays; only SQLite stops it, and nothing is written to the disk
pub record ReadsLog (most : Option ℕ) (old new : State) (result : Result (Vec LogRow Global) ReadFault) : Type 0 where
  pub rows : HasCleanDisk new → (t : PlainTerms) (es : List Entry) → IsLedgerOf t es old → IfOk result (λ log. AreLogged (last_of most es) log.items)
  pub stays : HasCleanDisk new → (t : PlainTerms) (es : List Entry) → IsLedgerOf t es old → OnOk result (IsLedgerOf t es new)
  pub fit : HasCleanDisk new → (t : PlainTerms) (es : List Entry) → IsLedgerOf t es old → IfErr result IsSqlFault
  pub crash : Survives old new (λ _. (t : PlainTerms) (es : List Entry) → IsLedgerOf t es old → ⊥)

-- the ledger stays, and this was written of its last events
pub record Tells (Written : List ℕ → Type 0) (t : PlainTerms) (es : List Entry) (most : Option ℕ) (new : State) : Type 0 where
  pub rows : List LogRow
  pub are : AreLogged (last_of most es) rows
  pub written : Written (log_text rows)
  pub stays : IsLedgerOf t es new

-- their log was written, or a front of it if a write failed; or SQLite did not answer
abbrev pub TellsLog : {A : Type 0} → PlainTerms → List Entry → Option ℕ → State → Option (List ℕ) → Option (List ℕ) → Result A LogFault → Type 0
TellsLog t es most new out_old out_new (Ok done) = Tells (Appends out_old out_new) t es most new
TellsLog t es most new out_old out_new (Err Unwritten) = Tells (WritesFront out_old out_new) t es most new
TellsLog t es most new out_old out_new (Err (Unread fault)) = IsSqlFault fault

-- if it was not read, nothing was written
abbrev pub WritesRead : {A : Type 0} → Option (List ℕ) → Option (List ℕ) → Result A LogFault → Type 0
WritesRead out_old out_new (Err (Unread fault)) = out_new ≡ out_old
WritesRead out_old out_new _ = ⊤
