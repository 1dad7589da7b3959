-- What contracts see of a map.
use Rattle.std.specs.Prelude.{◌≡◌, ℕ, Bool, IsTrue}
use Rattle.bt_mapkind.specs.declared.attr.MapAttr.{MapAttr}
use Rattle.bt_mapkind.specs.Contents.{Contents, fresh}

pub record Seen : Type 0 where
  pub attr : MapAttr
  pub contents : Contents
  pub charge : ℕ
  -- all the room it will ever need was reserved when it was made, so that no call of it takes memory
  pub roomy : Bool

-- it holds what a new map of its attributes holds
abbrev pub IsFresh : Seen → Type 0
IsFresh s = s.contents ≡ fresh s.attr

-- each map of this make has all its room from the start
abbrev pub NeverWantsMemory : {K : Type 0} → (K → Seen) → Type 0
NeverWantsMemory {K} seen = (kind : K) → IsTrue (seen kind).roomy
