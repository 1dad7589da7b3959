-- Writes to a part of a value, and what an atomic instruction makes of it (RFC 9669, "Atomic operations").
use Rattle.std.specs.Prelude.{ℕ, ◌+◌, ◌^◌, ◌%◌, ◌==◌, Bool, true, if◌then◌else◌, List, ◌++◌, length, take, drop, bit_and, bit_or, bit_xor}
use Rattle.std.specs.Int.{w32, w64, to_le_bytes, from_le_bytes}
use Rattle.bt_mapkind.specs.declared.atomic.AtomicOp.{AtomicOp}
use Rattle.bt_mapkind.specs.declared.atomic.AtomicOp.TheVariants.{Add, Or, And, Xor, Exchange, CompareExchange}
use Rattle.bt_mapkind.specs.declared.atomic.AtomicSize.{AtomicSize}
use Rattle.bt_mapkind.specs.declared.atomic.AtomicSize.TheVariants.{Word, DoubleWord}

-- a value with other bytes from an offset on
abbrev pub overwritten : List ℕ → ℕ → List ℕ → List ℕ
overwritten value offset bytes = take offset value ++ bytes ++ drop (offset + length bytes) value

-- so many bytes of a value from an offset on
abbrev pub part_of : List ℕ → ℕ → ℕ → List ℕ
part_of value offset size = take size (drop offset value)

abbrev pub size_in_bytes : AtomicSize → ℕ
size_in_bytes Word = 4
size_in_bytes DoubleWord = 8

abbrev pub modulus : AtomicSize → ℕ
modulus Word = 2 ^ 32
modulus DoubleWord = 2 ^ 64

-- the number that bytes are, the lowest first, and the bytes of a number
unfoldable pub number_of : AtomicSize → List ℕ → ℕ
number_of Word bytes = from_le_bytes w32 bytes
number_of DoubleWord bytes = from_le_bytes w64 bytes

unfoldable pub bytes_of : AtomicSize → ℕ → List ℕ
bytes_of Word n = to_le_bytes w32 n
bytes_of DoubleWord n = to_le_bytes w64 n

-- what becomes of a number `old`, with an operand below the same modulus; sums wrap
abbrev pub combined : AtomicOp → ℕ → ℕ → ℕ → ℕ
combined (Add _) modulus old operand = (old + operand) % modulus
combined (Or _) modulus old operand = bit_or old operand
combined (And _) modulus old operand = bit_and old operand
combined (Xor _) modulus old operand = bit_xor old operand
combined Exchange modulus old operand = operand
combined (CompareExchange expected) modulus old operand = if old == expected % modulus then operand else old

-- what an atomic instruction puts in the place of bytes
abbrev pub bytes_after : AtomicOp → AtomicSize → ℕ → List ℕ → List ℕ
bytes_after op size operand bytes =
    bytes_of size (combined op (modulus size) (number_of size bytes) (operand % modulus size))

-- whether the instruction gives the bytes that stood there
abbrev pub fetches : AtomicOp → Bool
fetches (Add fetch) = fetch
fetches (Or fetch) = fetch
fetches (And fetch) = fetch
fetches (Xor fetch) = fetch
fetches Exchange = true
fetches (CompareExchange _) = true
