-- Which reply fits what an access expects.
use Rattle.std.specs.Prelude.{ℕ, ◌^◌, ◌==◌, nat_lt, Bool, true, false, not, ◌||◌, length}
use Rattle.bt_insn.specs.declared.load_store.Size.{Size}
use Rattle.bt_insn.specs.declared.load_store.Size.TheVariants.{Byte, Half, Word, DoubleWord}
use Rattle.program_access.specs.declared.reply.AccessReply.{AccessReply}
use Rattle.program_access.specs.declared.reply.AccessReply.TheVariants.{Gone, OutOfRange, Refused, Errno, Done, Number, Nothing, Found, Map, Value, Prog}
use Rattle.program_access.specs.declared.reply.Expected.{Expected}
use Rattle.program_access.specs.declared.reply.Expected.TheVariants.{Number as ANumber, Stored, Key, Map as AMap, Changed, Value as AValue, Prog as AProg}

-- a number of so many bytes
abbrev pub is_of_size : Size → ℕ → Bool
is_of_size Byte n = nat_lt n (2 ^ 8)
is_of_size Half n = nat_lt n (2 ^ 16)
is_of_size Word n = nat_lt n (2 ^ 32)
is_of_size DoubleWord n = true

-- a load, a store or an atomic operation
abbrev pub is_through_pointer : Expected → Bool
is_through_pointer (ANumber size) = true
is_through_pointer Stored = true
is_through_pointer _ = false

abbrev pub is_of_lookup : Expected → Bool
is_of_lookup (Key size) = true
is_of_lookup AMap = true
is_of_lookup _ = false

abbrev pub is_done : Expected → Bool
is_done Stored = true
is_done Changed = true
is_done _ = false

abbrev pub is_number : Expected → ℕ → Bool
is_number (ANumber size) n = is_of_size size n
is_number _ n = false

abbrev pub is_key : Expected → ℕ → Bool
is_key (Key size) n = n == size
is_key _ n = false

abbrev pub is_map : Expected → Bool
is_map AMap = true
is_map _ = false

abbrev pub is_value : Expected → ℕ → Bool
is_value (AValue size) n = n == size
is_value _ n = false

abbrev pub is_prog : Expected → Bool
is_prog AProg = true
is_prog _ = false

abbrev pub fits : Expected → AccessReply → Bool
fits e Gone = true
fits e OutOfRange = is_through_pointer e
fits e Refused = is_through_pointer e || is_of_lookup e
fits e (Errno errno) = not (is_through_pointer e || is_of_lookup e)
fits e Done = is_done e
fits e (Number n) = is_number e n
fits e Nothing = is_of_lookup e
fits e (Found key) = is_key e (length key)
fits e (Map id attr) = is_map e
fits e (Value value) = is_value e (length value)
fits e (Prog prog) = is_prog e
