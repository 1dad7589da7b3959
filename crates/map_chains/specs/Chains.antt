-- Rows in the chains of buckets: what contracts see of them, and the links that keep them. A node is a row, or after the
-- rows a bucket; the links from a bucket's node lead through the rows of its chain and back to it.
use Rattle.std.specs.Prelude.{◌≡◌, ◌+◌, ◌-◌, ◌<◌, ◌≤◌, ◌^◌, ℕ, zero, suc, Bool, not, nat_lt, if◌then◌else◌, List, [], ◌∷◌, length, map, slice_index, All, Option, Some, None, eqb, refl}
use Rattle.std.specs.List.{filter, list_any, range_with_len, IsDistinct}
use Rattle.std.specs.Coded.{Coded, code_by, coded×, coded_ℕ, coded_list}

-- how many rows there are, and the rows in the chain of each bucket
pub record Chained : Type 0 where
  pub rows : ℕ
  pub buckets : List (List ℕ)

abbrev pub chained_code : Coded Chained
chained_code = code_by (ℕ × List (List ℕ)) (coded× coded_ℕ (coded_list (coded_list coded_ℕ))) (λ c. (c.rows, c.buckets)) (λ p. record { rows = p.0; buckets = p.1 }) (λ _. refl)

-- whether a chain has a row
abbrev pub has : ℕ → List ℕ → Bool
has row chain = list_any (eqb row) chain

-- a chain that lost a row
abbrev pub without : ℕ → List ℕ → List ℕ
without row chain = filter (λ other. not (eqb row other)) chain

-- the rows that the links lead to from a node on, before the first node that is none, and so many at most
unfoldable pub rows_from : List ℕ → ℕ → ℕ → ℕ → List ℕ
rows_from after rows zero node = []
rows_from after rows (suc more) node =
    let next : ℕ = slice_index after node in
    if nat_lt next rows then next ∷ rows_from after rows more next else []

-- the row after a node, if there is one
abbrev pub row_after : List ℕ → ℕ → ℕ → Option ℕ
row_after after rows node = let next : ℕ = slice_index after node in if nat_lt next rows then Some next else None

-- the rows in each bucket's chain
abbrev pub buckets_of : ℕ → List ℕ → List (List ℕ)
buckets_of rows after = map (λ bucket. rows_from after rows rows (rows + bucket)) (range_with_len 0 (length after - rows))

-- the links after lead from one node through a chain to another, and the links before the same way back
abbrev pub Leads : List ℕ → List ℕ → ℕ → List ℕ → ℕ → Type 0
Leads after before from [] to = (slice_index after from ≡ to) × (slice_index before to ≡ from)
Leads after before from (row ∷ chain) to = (slice_index after from ≡ row) × (slice_index before row ≡ from) × Leads after before row chain to

-- what chains keep: from each bucket the links lead round through different rows
pub record IsLinked (rows : ℕ) (after before : List ℕ) : Type 0 where
  pub some : rows < length after
  pub few : length after ≤ 2 ^ 32
  pub back : length before ≡ length after
  pub afters : All (λ node. node < length after) after
  pub befores : All (λ node. node < length after) before
  pub round : (bucket : ℕ) → rows + bucket < length after → Leads after before (rows + bucket) (rows_from after rows rows (rows + bucket)) (rows + bucket)
  pub once : (bucket : ℕ) → rows + bucket < length after → IsDistinct eqb (rows_from after rows rows (rows + bucket))
