-- An exchange of what a map holds, kept in one block.
use Rattle.std.specs.Prelude.{◌+◌, ◌≤◌, ⊤, ℕ, Bool, true, false, not, List, [], length, take, drop, max, nat_eq, Option, Some, None, is_some, if◌then◌else◌}
use Rattle.std.specs.Cmp.Lexicographic.{pointwise}
use Rattle.bt_mapkind.specs.Bytes.{AreBytes}
use Rattle.bt_mapkind.specs.declared.attr.MapAttr.{MapAttr}
use Rattle.bt_mapkind.specs.declared.exchange.Back.{Back}
use Rattle.bt_mapkind.specs.declared.exchange.Back.TheVariants.{Key, Ends, Link}
use Rattle.bt_mapkind.specs.declared.kept.Form.{Form}
use Rattle.bt_mapkind.specs.declared.kept.Form.TheVariants.{Keyed, AtEnds, Linked}

-- an exchange, and how many bytes are reserved for what it holds
pub record Kept : Type 0 where
  pub back : Back
  pub room : ℕ

abbrev pub bytes_of : Option (List ℕ) → ℕ
bytes_of None = 0
bytes_of (Some value) = length value

abbrev pub some_bytes : Option (List ℕ) → List ℕ
some_bytes None = []
some_bytes (Some value) = value

-- an exchange of one key of a map of bytes
abbrev pub is_keyed : Back → Bool
is_keyed (Key key value) = true
is_keyed (Ends take_front take_rear front rear) = false
is_keyed (Link key id) = false

-- an exchange that is to take a key away: what it takes back put a new one
abbrev pub is_new : Back → Bool
is_new (Key key value) = not (is_some value)
is_new (Ends take_front take_rear front rear) = false
is_new (Link key id) = not (is_some id)

abbrev pub is_same_key : Back → Back → Bool
is_same_key (Key key value) (Key other _) = pointwise nat_eq key other
is_same_key _ _ = false

abbrev pub IsByteKey : Back → Type 0
IsByteKey (Key key value) = AreBytes key
IsByteKey _ = ⊤

-- how many bytes an exchange holds
abbrev pub bytes_in : Back → ℕ
bytes_in (Key key value) = length key + bytes_of value
bytes_in (Ends take_front take_rear front rear) = bytes_of front + bytes_of rear
bytes_in (Link key id) = length key

-- so many bytes hold every exchange of a map of these sizes
abbrev pub room_of : MapAttr → ℕ
room_of a = max a.key_size a.value_size + a.value_size

-- where the bytes of a block divide
abbrev pub divide : Form → ℕ
divide (Keyed key there) = key
divide (AtEnds take_front take_rear front has_front has_rear) = front
divide (Linked id) = 0

abbrev pub if_there : Bool → List ℕ → Option (List ℕ)
if_there there bytes = if there then Some bytes else None

-- the exchange that a block of bytes makes
abbrev pub back_by : List ℕ → Form → Back
back_by bytes (Keyed key there) = Key (take key bytes) (if_there there (drop key bytes))
back_by bytes (AtEnds take_front take_rear front has_front has_rear) =
    Ends take_front take_rear (if_there has_front (take front bytes)) (if_there has_rear (drop front bytes))
back_by bytes (Linked id) = Link bytes id

-- each part of a block is no longer than bytes can be inline
pub record IsDivided (bytes : List ℕ) (form : Form) : Type 0 where
  pub inside : divide form ≤ length bytes
  pub first : divide form ≤ 260
  pub second : length bytes ≤ divide form + 260
