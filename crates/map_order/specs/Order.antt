-- What contracts see of an order, and how blocks keep its rows.
use Rattle.std.specs.Prelude.{◌*◌, ◌<◌, ◌≤◌, ◌^◌, ℕ, List, length}
use Rattle.map_order.specs.Blocks.{AreBlocks}

-- the rows in their order, and how many there can be
pub record Ordered : Type 0 where
  pub rows : List ℕ
  pub capacity : ℕ

-- what an order keeps: blocks with room for its capacity
pub record IsOrder (capacity len : ℕ) (starts rows : List ℕ) : Type 0 where
  pub blocks : AreBlocks starts rows
  pub within : len ≤ capacity
  pub room : capacity ≤ length starts * 512
  pub few : capacity < 2 ^ 32
