-- The chains that find the rows of a table's keys, and what a search there says.
use Rattle.std.specs.Prelude.{◌≡◌, ◌≢◌, ◌<◌, ℕ, ◌&&◌, List, [], length, take, slice_index, slice_index_or, eqb}
use Rattle.map_chains.specs.Chains.{Chained, has}
use Rattle.map_chains.specs.Buckets.{bucket_of}
use Rattle.map_table.specs.Table.{IsTable, all_rows}
use Rattle.map_order.specs.Order.{Ordered}

-- the chain of a bucket has those of the first rows of an order whose keys are of the bucket, and no others
pub record IsIndexed (order : List ℕ) (len : ℕ) (keys : List (List ℕ)) (chains : Chained) : Type 0 where
  pub rows : chains.rows ≡ length keys
  pub some : 0 < length chains.buckets
  pub exact : (bucket row : ℕ) → bucket < length chains.buckets
      → has row (slice_index_or chains.buckets bucket []) ≡ (has row (take len order) && eqb (bucket_of (length chains.buckets) (slice_index_or keys row [])) bucket)

-- what a table keeps
pub record IsIndexedTable (order : Ordered) (free : List ℕ) (key_size value_size : ℕ) (keys values : List (List ℕ)) (chains : Chained) : Type 0 where
  pub table : IsTable (all_rows order.rows free) (length order.rows) key_size value_size keys values
  pub index : IsIndexed (all_rows order.rows free) (length order.rows) keys chains
  pub capacity : order.capacity ≡ length keys
  pub room : length free ≡ length keys

-- one of the first rows of an order has a key
pub record IsRow (order : List ℕ) (len : ℕ) (keys : List (List ℕ)) (key : List ℕ) (row : ℕ) : Type 0 where
  pub place : ℕ
  pub within : place < len
  pub at : slice_index order place ≡ row
  pub is : slice_index_or keys row [] ≡ key

-- a key is not among others
pub record IsNotIn (keys : List (List ℕ)) (key : List ℕ) : Type 0 where
  pub other : (place : ℕ) → place < length keys → slice_index_or keys place [] ≢ key
