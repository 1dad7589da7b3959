-- What the faults of the book are called on a new host, and why the program's host has none.
use Rattle.std.specs.Prelude.{◌≡◌, ⊤, ℕ, Err}
use Rattle.journal_model.specs.Book.{opened}
use Rattle.journal_model.specs.declared.faults.BookFault.{BookFault}
use Rattle.journal_model.specs.declared.faults.BookFault.TheVariants as book
use Rattle.console_script.specs.declared.fault.HostFault.{HostFault}
use Rattle.console_script.specs.declared.fault.HostFault.TheVariants as host
use Rattle.console_script.specs.Host.{device_names, limits_of}

abbrev pub book_fault_of : BookFault → HostFault
book_fault_of book.BadDevices = host.BadDevices
book_fault_of book.BadLimits = host.BadLimits
book_fault_of book.NoMemory = host.NoMemory

-- of the program's host with a journal of so many moments: memory lacks, or there is no book with its devices and limits
abbrev pub TellsNone : ℕ → HostFault → Type 0
TellsNone moments host.NoMemory = ⊤
TellsNone moments host.BadDevices = opened device_names (limits_of moments) ≡ Err book.BadDevices
TellsNone moments host.BadLimits = opened device_names (limits_of moments) ≡ Err book.BadLimits
TellsNone moments host.Write = ⊥
