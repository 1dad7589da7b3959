-- The laws of bounds: what a map holds is made of bytes and of ids of 32 bits from the start, and stays so.
use Rattle.std.specs.Prelude.{◌≡◌, ℕ, List, length, Ok}
use Rattle.bt_mapkind.specs.declared.attr.MapAttr.{MapAttr}
use Rattle.bt_mapkind.specs.declared.exchange.Back.{Back}
use Rattle.bt_mapkind.specs.declared.request.MapOp.{MapOp}
use Rattle.bt_mapkind.specs.Bounds.{AreBounded, IsBoundedBack, IsBoundedOp}
use Rattle.bt_mapkind.specs.Bytes.{AreBytes}
use Rattle.bt_mapkind.specs.Contents.{Contents, fresh}
use Rattle.bt_mapkind.specs.Exchange.{exchanged}
use Rattle.bt_mapkind.specs.Index.{index_of}
use Rattle.bt_mapkind.specs.Step.{Changed, map_step}

-- what a new map holds is bounded
abbrev pub BeginsBounded : MapAttr → Type 0
BeginsBounded a = AreBounded (fresh a)

-- bounded contents and a bounded exchange that change places stay bounded
abbrev pub TurnsBounded : Contents → Back → Type 0
TurnsBounded c b = AreBounded c → IsBoundedBack b → AreBounded (exchanged c b).0 × IsBoundedBack (exchanged c b).1

-- a bounded operation that is accepted leaves bounded contents, and a bounded exchange takes it back
abbrev pub ChangesBounded : MapAttr → Contents → MapOp → Changed → Type 0
ChangesBounded a c op changed =
    AreBounded c → IsBoundedOp op → map_step a c op ≡ Ok changed → AreBounded changed.contents × IsBoundedBack changed.back

-- of two keys of four bytes that are the same index each is the other
abbrev pub IsIndexOfOne : List ℕ → List ℕ → Type 0
IsIndexOfOne key other =
    AreBytes key → AreBytes other → length key ≡ 4 → length other ≡ 4 → index_of key ≡ index_of other → key ≡ other
