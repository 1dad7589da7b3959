-- The stack: 512 bytes, of whose aligned words of eight each may hold what is no number.
use Rattle.std.specs.Prelude.{ℕ, zero, suc, ◌+◌, ◌-◌, ◌*◌, ◌/◌, ◌%◌, ◌==◌, ◌&&◌, Bool, if◌then◌else◌, Option, Some, None, is_none, Result, Ok, Err, List, length, replicate, take, drop, slice_index_or, slice_set, slice_range}
use Rattle.std.specs.List.{list_all}
use Rattle.bt_insn.specs.LoadStore.{size_bytes}
use Rattle.bt_insn.specs.declared.load_store.Size.{Size}
use Rattle.bt_insn.specs.declared.load_store.Size.TheVariants.{DoubleWord}
use Rattle.program_machine.specs.Bytes.{lie_within, number_at, with_number, overwritten}
use Rattle.program_machine.specs.Held.{Held, Number}
use Rattle.program_machine.specs.declared.stack.Stack.{Stack}
use Rattle.program_machine.specs.declared.reason.Reason.{Reason}
use Rattle.program_machine.specs.declared.reason.Reason.TheVariants.{OutOfRange, WrongKind}

-- zero, and no word holds anything else
abbrev pub fresh : Stack
fresh = record { bytes = replicate 512 0; kept = replicate 64 None }

-- what a word holds beside its bytes
abbrev pub kept_at : Stack → ℕ → Option Held
kept_at s word = slice_index_or s.kept word None

-- bytes are read if both words that they touch are of bytes
abbrev pub read_of : Option Held → Option Held → ℕ → Result ℕ Reason
read_of None None n = Ok n
read_of (Some v) last n = Err WrongKind
read_of None (Some v) n = Err WrongKind

-- the number at a position
abbrev pub number_in : Stack → ℕ → Size → Result ℕ Reason
number_in s position size =
    if lie_within 512 position (size_bytes size) then
    read_of (kept_at s (position / 8)) (kept_at s ((position + size_bytes size - 1) / 8)) (number_at s.bytes position size) else
    Err OutOfRange

-- what an aligned word of eight bytes holds
abbrev pub kept_for : Stack → ℕ → Size → Option Held
kept_for s position DoubleWord = if (position % 8 == 0) && lie_within 512 position 8 then kept_at s (position / 8) else None
kept_for s position size = None

abbrev pub loaded : Option Held → Result ℕ Reason → Result Held Reason
loaded kept (Ok n) = Ok (Number n)
loaded (Some v) (Err reason) = Ok v
loaded None (Err reason) = Err reason

-- what a load gives
abbrev pub load_of : Stack → ℕ → Size → Result Held Reason
load_of s position size = loaded (kept_for s position size) (number_in s position size)

-- a word that held something else becomes eight zero bytes
abbrev pub zeroed : Stack → ℕ → Option Held → Stack
zeroed s word None = s
zeroed s word (Some v) = record s { bytes = with_number s.bytes (8 * word) DoubleWord 0; kept = slice_set s.kept word None }

abbrev pub cleared : Stack → ℕ → Stack
cleared s word = zeroed s word (kept_at s word)

abbrev pub with_bytes : Stack → List ℕ → Stack
with_bytes s bytes = record s { bytes = bytes }

abbrev pub put_number : Stack → ℕ → Size → ℕ → Stack
put_number s position size n = with_bytes s (with_number s.bytes position size n)

-- a number is stored as bytes, in words of bytes
abbrev pub store_of : Stack → ℕ → Size → ℕ → Result Stack Reason
store_of s position size n =
    if lie_within 512 position (size_bytes size) then
    Ok (put_number (cleared (cleared s (position / 8)) ((position + size_bytes size - 1) / 8)) position size n) else
    Err OutOfRange

abbrev pub keeping : Stack → ℕ → Held → Stack
keeping s word v = record s { kept = slice_set s.kept word (Some v) }

-- what is no number is stored in an aligned word
abbrev pub spill_of : Stack → ℕ → Held → Result Stack Reason
spill_of s position v =
    if position % 8 == 0 then if lie_within 512 position 8 then Ok (keeping s (position / 8) v) else Err OutOfRange else
    Err WrongKind

-- the words that bytes touch end before this one
abbrev pub words_end : ℕ → ℕ → ℕ
words_end position count = (position + count + 7) / 8

abbrev pub are_plain : Stack → ℕ → ℕ → Bool
are_plain s position count = list_all is_none (slice_range s.kept (position / 8) (words_end position count))

-- so many bytes from a position on
abbrev pub bytes_in : Stack → ℕ → ℕ → Result (List ℕ) Reason
bytes_in s position count =
    if lie_within 512 position count then if are_plain s position count then Ok (take count (drop position s.bytes)) else Err WrongKind else
    Err OutOfRange

-- so many words become words of bytes
unfoldable pub cleared_words : Stack → ℕ → ℕ → Stack
cleared_words s word zero = s
cleared_words s word (suc n) = cleared (cleared_words s word n) (word + n)

abbrev pub put_bytes : Stack → ℕ → List ℕ → Stack
put_bytes s position bytes = with_bytes s (overwritten s.bytes position bytes)

abbrev pub written : Stack → ℕ → List ℕ → Stack
written s position bytes =
    put_bytes (cleared_words s (position / 8) (words_end position (length bytes) - position / 8)) position bytes

-- bytes are written in words of bytes
abbrev pub write_of : Stack → ℕ → List ℕ → Result Stack Reason
write_of s position bytes = if lie_within 512 position (length bytes) then Ok (written s position bytes) else Err OutOfRange
