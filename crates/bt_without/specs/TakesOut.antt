-- What taking a change out of a book does.
use Rattle.std.specs.Prelude.{◌≡◌, ℕ, ◌-◌, Result, Ok, Err, IfOk}
use Rattle.journal_model.specs.declared.faults.WithoutFault.{WithoutFault}
use Rattle.journal_model.specs.declared.faults.WithoutFault.TheVariants.{NoMemory}
use Rattle.journal_model.specs.Book.{PlainBook, OrNoMemory}
use Rattle.journal_model.specs.Without.{taken_out}
use Rattle.journal_laws.specs.Headline.{IsOutcome}
use Rattle.bt_journal.specs.BookView.{BookView}
use Rattle.bt_journal.specs.declared.taking.TakenOut.{TakenOut}

-- the serial of the taking out, or why there is none
abbrev pub serial_of : Result TakenOut WithoutFault → Result ℕ WithoutFault
serial_of (Ok taken) = Ok taken.serial
serial_of (Err fault) = Err fault

-- the plain book's change is taken out, or an allocation failed and nothing has changed; and the work is told
abbrev pub TakesOut : BookView → ℕ → BookView × Result TakenOut WithoutFault → Type 0
TakesOut old serial made =
    OrNoMemory old.plain NoMemory (taken_out old.plain serial) (made.0.plain, serial_of made.1)
    × IfOk made.1 (λ (taken : TakenOut). taken.work ≡ made.0.work - old.work)

-- the state is what the other changes in force make without the one, each answering as before, or it is told why it stays;
-- and if an allocation failed, nothing has changed
abbrev pub HasOutcome : PlainBook → ℕ → PlainBook → Result ℕ WithoutFault → Type 0
HasOutcome b serial c (Ok own) = IsOutcome b serial c (Ok own)
HasOutcome b serial c (Err NoMemory) = c ≡ b
HasOutcome b serial c (Err fault) = IsOutcome b serial c (Err fault)
