-- The row of an event as values of SQLite, and the row that values are. A number of 64 bits is stored as the integer of the same
-- bits, so that the numbers below 2^63 stand as they are.
use Rattle.std.specs.Prelude.{ℕ, ◌^◌, ◌<◌, List, [], ◌∷◌, Option, Some, None, IfSome}
use Rattle.std.specs.Option.{option_map}
use Rattle.std.specs.Int.{w64, cast_signed, cast_unsigned}
use Rattle.bt_mapkind.specs.declared.attr.MapType.{MapType}
use Rattle.sqlite_value.specs.declared.value.Value.{Value}
use Rattle.sqlite_value.specs.declared.value.Value.TheVariants.{Int, Text, Blob}
use Rattle.sqlite_value.specs.Order.{Row as Values, column}
use Rattle.sqlite.specs.Values.{or_null}
use Rattle.kept_event.specs.declared.row.Row.{Row}
use Rattle.kept_event.specs.declared.verb.Verb.{Verb}
use Rattle.kept_event.specs.Words.{verb_word, verb_of, type_word, type_of}

-- ---- a column
abbrev pub number : Option ℕ → Value
number = or_null (λ n. Int (cast_signed w64 n))

abbrev pub text : Option (List ℕ) → Value
text = or_null (λ t. Text t)

abbrev pub blob : Option (List ℕ) → Value
blob = or_null (λ b. Blob b)

abbrev pub kind_text : Option MapType → Value
kind_text = or_null (λ kind. Text (type_word kind))

-- the columns that are read, all but place and time
abbrev pub columns_of : Row → Values
columns_of row =
    number row.serial ∷ number row.prog ∷ Text (verb_word row.verb) ∷ number row.map ∷ blob row.key ∷ blob row.value ∷ number row.flag ∷ number row.at ∷ number row.size
    ∷ number row.op ∷ number row.target ∷ text row.name ∷ text row.path ∷ kind_text row.kind ∷ number row.key_size ∷ number row.value_size ∷ number row.entries
    ∷ number row.flags ∷ blob row.code ∷ []

-- ---- what a column says
abbrev pub number_in : Value → Option ℕ
number_in (Int n) = Some (cast_unsigned w64 n)
number_in _ = None

abbrev pub text_in : Value → Option (List ℕ)
text_in (Text t) = Some t
text_in _ = None

abbrev pub blob_in : Value → Option (List ℕ)
blob_in (Blob b) = Some b
blob_in _ = None

abbrev pub verb_in : Value → Option Verb
verb_in (Text t) = verb_of t
verb_in _ = None

abbrev pub kind_in : Value → Option MapType
kind_in (Text t) = type_of t
kind_in _ = None

-- the row of this verb that values are, of which the first is their place
abbrev pub row_by : Verb → Values → Row
row_by verb values = record {
  serial = number_in (column values 1);
  prog = number_in (column values 2);
  verb = verb;
  map = number_in (column values 4);
  key = blob_in (column values 5);
  value = blob_in (column values 6);
  flag = number_in (column values 7);
  at = number_in (column values 8);
  size = number_in (column values 9);
  op = number_in (column values 10);
  target = number_in (column values 11);
  name = text_in (column values 12);
  path = text_in (column values 13);
  kind = kind_in (column values 14);
  key_size = number_in (column values 15);
  value_size = number_in (column values 16);
  entries = number_in (column values 17);
  flags = number_in (column values 18);
  code = blob_in (column values 19);
}

abbrev pub row_in : Values → Option Row
row_in values = option_map (λ verb. row_by verb values) (verb_in (column values 3))

-- ---- the numbers of a row have 64 bits
abbrev pub IsNumber : Option ℕ → Type 0
IsNumber column = IfSome column (λ n. n < 2 ^ 64)

pub record Fits (row : Row) : Type 0 where
  pub serial : IsNumber row.serial
  pub prog : IsNumber row.prog
  pub map : IsNumber row.map
  pub flag : IsNumber row.flag
  pub at : IsNumber row.at
  pub size : IsNumber row.size
  pub op : IsNumber row.op
  pub target : IsNumber row.target
  pub key_size : IsNumber row.key_size
  pub value_size : IsNumber row.value_size
  pub entries : IsNumber row.entries
  pub flags : IsNumber row.flags
