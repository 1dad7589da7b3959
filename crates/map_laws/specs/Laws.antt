-- The laws of the places in a map, and of walks over its keys, for every type of map.
use Rattle.std.specs.Prelude.{◌≡◌, ◌≢◌, ◌<◌, ℕ, true, false, not, List, Some, None, slice_get, Ok}
use Rattle.bt_mapkind.specs.declared.attr.MapAttr.{MapAttr}
use Rattle.bt_mapkind.specs.declared.exchange.Back.{Back}
use Rattle.bt_mapkind.specs.declared.request.MapOp.{MapOp}
use Rattle.bt_mapkind.specs.Contents.{Contents}
use Rattle.bt_mapkind.specs.Exchange.{exchange_fits, exchanged}
use Rattle.bt_mapkind.specs.Step.{Changed, map_step}
use Rattle.bt_mapkind.specs.Well.{IsWell, OfItems, shape_of, shape_of_type}
use Rattle.bt_mapkind.specs.declared.request.MapOp.TheVariants.{Update, SetLink}
use Rattle.bt_mapkind.specs.declared.request.Query.TheVariants.{Lookup, Item}
use Rattle.bt_mapkind.specs.Attributes.{is_lpm, good}
use Rattle.bt_mapkind.specs.Sizes.{key_fits}
use Rattle.bt_mapkind.specs.Prefix.{address}
use Rattle.bt_mapkind.specs.Read.{map_read}
use Rattle.map_laws.specs.Place.{Place, place_of, place_at, place_of_op, adds_key, is_full, is_put, is_delete, puts_key, is_new, is_by_key, then_turned}
use Rattle.map_laws.specs.Walk.{Walks, ComesBefore, keys_of, dumped_keys, key_named}
use Rattle.map_laws.specs.Standing.{value_at, id_at, SameAt, looked_up}
use Rattle.bt_mapkind.specs.Laws.{IsTurnable}

-- the exchange that does again what an accepted operation did
abbrev pub forth_of : Changed → Back
forth_of changed = (exchanged changed.contents changed.back).1

-- an accepted operation is a turning at its own place
pub record IsTurningAtItsPlace (a : MapAttr) (c : Contents) (op : MapOp) (changed : Changed) : Type 0 where
  pub fits : exchange_fits a c (forth_of changed) ≡ true
  pub turned : exchanged c (forth_of changed) ≡ (changed.contents, changed.back)
  pub forth_place : place_of a (forth_of changed) ≡ place_of_op a op
  pub back_place : place_of a changed.back ≡ place_of_op a op

abbrev pub ChangesAtItsPlace : MapAttr → Contents → MapOp → Changed → Type 0
ChangesAtItsPlace a c op changed = IsWell a c → map_step a c op ≡ Ok changed → IsTurningAtItsPlace a c op changed

-- two exchanges in either order: the same contents are left, and each gives what it gives alone
pub record EitherOrder (c : Contents) (b other : Back) : Type 0 where
  pub contents : (exchanged (exchanged c b).0 other).0 ≡ (exchanged (exchanged c other).0 b).0
  pub first : (exchanged (exchanged c other).0 b).1 ≡ (exchanged c b).1
  pub second : (exchanged (exchanged c b).0 other).1 ≡ (exchanged c other).1

-- exchanges at different places do not meet
abbrev pub ExchangesApart : MapAttr → Contents → Back → Back → Type 0
ExchangesApart a c b other = IsTurnable a c b → exchange_fits a c other ≡ true → place_of a b ≢ place_of a other → EitherOrder c b other

-- an operation does not meet an exchange at another place; if it adds a key, the map must be as full as before
abbrev pub OperationApart : MapAttr → Contents → Back → MapOp → Type 0
OperationApart a c b op =
    IsTurnable a c b → place_of a b ≢ place_of_op a op
    → (adds_key a c op ≡ true → is_full a (exchanged c b).0 ≡ is_full a c)
    → map_step a (exchanged c b).0 op ≡ then_turned (map_step a c op) b

-- an exchange at another place still fits after an exchange; if it puts a key that is not there, the map must have room then
abbrev pub FitsAfter : MapAttr → Contents → Back → Back → Type 0
FitsAfter a c b other =
    IsTurnable a c b → exchange_fits a c other ≡ true → place_of a b ≢ place_of a other
    → (puts_key a c other ≡ true → is_full a (exchanged c b).0 ≡ false)
    → exchange_fits a (exchanged c b).0 other ≡ true

-- an exchange that puts no new key leaves room if there was room
abbrev pub LeavesRoom : MapAttr → Contents → Back → Type 0
LeavesRoom a c b = IsWell a c → puts_key a c b ≡ false → is_full a c ≡ false → is_full a (exchanged c b).0 ≡ false

-- the exchange of an accepted operation on a map of bytes tells whether its key is new, and then there was room for it
pub record IsToldNew (a : MapAttr) (c : Contents) (op : MapOp) (changed : Changed) : Type 0 where
  pub new : adds_key a c op ≡ is_new changed.back
  pub room : adds_key a c op ≡ true → is_full a c ≡ false

abbrev pub TellsNew : MapAttr → Contents → MapOp → Changed → Type 0
TellsNew a c op changed = IsWell a c → is_by_key (shape_of_type a.kind) ≡ true → map_step a c op ≡ Ok changed → IsToldNew a c op changed

-- an operation, beside an exchange at another place of a map of bytes by key: it answers the same after the exchange, with
-- the same exchange of its own; and the other one fits after it, and exchanges what it would have before
pub record StepsBeside (a : MapAttr) (c : Contents) (u : Back) (op : MapOp) (changed : Changed) : Type 0 where
  pub steps : map_step a (exchanged c u).0 op ≡ then_turned (Ok changed) u
  pub fits : exchange_fits a changed.contents u ≡ true
  pub face : (exchanged changed.contents u).1 ≡ (exchanged c u).1

-- if the exchange puts a key back that is not there, the operation must have no new key
abbrev pub StaysBeside : MapAttr → Contents → Back → MapOp → Changed → Type 0
StaysBeside a c u op changed =
    IsTurnable a c u → is_by_key (shape_of_type a.kind) ≡ true → map_step a c op ≡ Ok changed → place_of a u ≢ place_of_op a op
    → (is_put (exchanged c u).1 ≡ false → is_new changed.back ≡ false)
    → StepsBeside a c u op changed

-- the exchange that does an accepted operation again puts something, unless it was a delete
abbrev pub PutsAgain : MapAttr → Contents → MapOp → Changed → Type 0
PutsAgain a c op changed = IsWell a c → is_by_key (shape_of_type a.kind) ≡ true → map_step a c op ≡ Ok changed → is_put (forth_of changed) ≡ not (is_delete op)

-- a value that was put stands at its place, and so does an id
abbrev pub ValueStands : MapAttr → Contents → List ℕ → List ℕ → ℕ → Changed → Type 0
ValueStands a c key value flag changed =
    IsWell a c → map_step a c (Update key value flag) ≡ Ok changed → value_at changed.contents (place_at a (address a key)) ≡ Some value

abbrev pub IdStands : MapAttr → Contents → List ℕ → ℕ → ℕ → Changed → Type 0
IdStands a c key id flag changed =
    IsWell a c → map_step a c (SetLink key id flag) ≡ Ok changed → id_at changed.contents (place_at a (address a key)) ≡ Some id

-- an accepted operation leaves every other place as it was
abbrev pub OthersStay : MapAttr → Contents → MapOp → Changed → Place → Type 0
OthersStay a c op changed p = IsWell a c → map_step a c op ≡ Ok changed → p ≢ place_of_op a op → SameAt c changed.contents p

-- a look-up by exact key finds what stands at the key's place
abbrev pub LooksUpItsPlace : MapAttr → Contents → List ℕ → Type 0
LooksUpItsPlace a c key =
    IsWell a c → is_lpm a.kind ≡ false → key_fits a key ≡ true → map_read a c (Lookup key) ≡ looked_up c key (place_at a (address a key))

-- a walk by `next` from no key on goes over the keys of a map in their order, each once; a queue or a stack has none
abbrev pub WalksItsKeys : MapAttr → Contents → Type 0
WalksItsKeys a c = IsWell a c → good a ≡ true → shape_of c ≢ OfItems → Walks a c None (keys_of c)

-- these keys come in their order, so each comes once
abbrev pub KeysRise : MapAttr → Contents → ℕ → ℕ → List ℕ → List ℕ → Type 0
KeysRise a c i j key other =
    IsWell a c → good a ≡ true → slice_get (keys_of c) i ≡ Some key → slice_get (keys_of c) j ≡ Some other → i < j → ComesBefore c key other

-- the element of a dump of each number names the key of that number
abbrev pub DumpsItsKeys : MapAttr → Contents → ℕ → Type 0
DumpsItsKeys a c n = key_named (map_read a c (Item n)) ≡ slice_get (dumped_keys c) n
