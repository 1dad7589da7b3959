-- The frame: bytes alone.
use Rattle.std.specs.Prelude.{ℕ, if◌then◌else◌, Result, Ok, Err, List, length, take, drop}
use Rattle.bt_insn.specs.LoadStore.{size_bytes}
use Rattle.bt_insn.specs.declared.load_store.Size.{Size}
use Rattle.program_machine.specs.Bytes.{lie_within, number_at, with_number, overwritten}
use Rattle.program_machine.specs.declared.reason.Reason.{Reason}
use Rattle.program_machine.specs.declared.reason.Reason.TheVariants.{OutOfRange}

-- the number at a position
abbrev pub number_in : List ℕ → ℕ → Size → Result ℕ Reason
number_in frame position size =
    if lie_within (length frame) position (size_bytes size) then Ok (number_at frame position size) else Err OutOfRange

abbrev pub store_of : List ℕ → ℕ → Size → ℕ → Result (List ℕ) Reason
store_of frame position size n =
    if lie_within (length frame) position (size_bytes size) then Ok (with_number frame position size n) else Err OutOfRange

-- so many bytes from a position on
abbrev pub bytes_in : List ℕ → ℕ → ℕ → Result (List ℕ) Reason
bytes_in frame position count =
    if lie_within (length frame) position count then Ok (take count (drop position frame)) else Err OutOfRange

abbrev pub write_of : List ℕ → ℕ → List ℕ → Result (List ℕ) Reason
write_of frame position bytes =
    if lie_within (length frame) position (length bytes) then Ok (overwritten frame position bytes) else Err OutOfRange
