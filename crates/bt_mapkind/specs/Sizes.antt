-- Whether keys, values and places have the sizes of a map.
use Rattle.std.specs.Prelude.{ℕ, Bool, List, length, ◌==◌, ◌&&◌, ◌+◌, nat_le}
use Rattle.bt_mapkind.specs.declared.attr.MapAttr.{MapAttr}

abbrev pub key_fits : MapAttr → List ℕ → Bool
key_fits a key = length key == a.key_size

abbrev pub value_fits : MapAttr → List ℕ → Bool
value_fits a value = length value == a.value_size

abbrev pub pair_fits : MapAttr → List ℕ → List ℕ → Bool
pair_fits a key value = key_fits a key && value_fits a value

-- so many bytes from an offset on lie within a value
abbrev pub range_fits : MapAttr → ℕ → ℕ → Bool
range_fits a offset size = nat_le (offset + size) a.value_size
