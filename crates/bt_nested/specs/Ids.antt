-- The ids that stand under keys as four bytes each, the lowest first.
use Rattle.std.specs.Prelude.{ℕ, List, map as each}
use Rattle.std.specs.FinMap as map
use Rattle.bt_mapkind.specs.Contents.{ByKey}
use Rattle.bt_mapkind.specs.Index.{index_of}

-- the ids whose bytes stand under the keys
unfoldable pub ids_of : ByKey (List ℕ) → ByKey ℕ
ids_of m = map.from_sorted (each (λ e. (e.0, index_of e.1)) (map.entries m))
