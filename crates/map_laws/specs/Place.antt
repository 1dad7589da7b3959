-- The place in a map that an exchange or an operation touches.
use Rattle.std.specs.Prelude.{ℕ, Bool, true, false, not, ◌&&◌, nat_le, List, Option, None, Some, is_some, Ok, Err}
use Rattle.std.specs.FinMap as map
use Rattle.bt_mapkind.specs.declared.attr.MapAttr.{MapAttr}
use Rattle.bt_mapkind.specs.declared.exchange.Back.{Back}
use Rattle.bt_mapkind.specs.declared.exchange.Back.TheVariants.{Key, Ends, Link}
use Rattle.bt_mapkind.specs.declared.request.MapOp.{MapOp}
use Rattle.bt_mapkind.specs.declared.request.MapOp.TheVariants.{Update, Delete, Push, Pop, Store, Atomic, SetLink}
use Rattle.bt_mapkind.specs.Contents.{Contents, Values, Entries, Items, Slots, Links}
use Rattle.bt_mapkind.specs.Prefix.{address}
pub use Rattle.bt_mapkind.specs.Kept.{is_new}
use Rattle.bt_mapkind.specs.Exchange.{exchanged}
use Rattle.bt_mapkind.specs.Step.{Step, goes}
use Rattle.bt_mapkind.specs.Index.{index_of}
use Rattle.bt_mapkind.specs.Well.{Shape, OfValues, OfEntries, OfItems, OfSlots, OfLinks, shape_of_type}

-- an index of an array or of a map of ids by index
-- the key under which an entry of a hash, an LPM trie or a hash of maps stands
-- all of a queue or a stack: whatever happens at one end can be seen at the other
-- none: a prefix that is too long stands nowhere
pub data Place : Type 0 where
  AtIndex : ℕ → Place
  AtKey : List ℕ → Place
  Whole : Place
  Nowhere : Place

-- the place of a key under which an entry can stand
abbrev pub place_in : Shape → List ℕ → Place
place_in OfValues key = AtIndex (index_of key)
place_in OfEntries key = AtKey key
place_in OfItems key = Whole
place_in OfSlots key = AtIndex (index_of key)
place_in OfLinks key = AtKey key

-- the place of an exchange
abbrev pub place_of : MapAttr → Back → Place
place_of a (Key key _) = place_in (shape_of_type a.kind) key
place_of a (Ends _ _ _ _) = Whole
place_of a (Link key _) = place_in (shape_of_type a.kind) key

abbrev pub place_at : MapAttr → Option (List ℕ) → Place
place_at a None = Nowhere
place_at a (Some key) = place_in (shape_of_type a.kind) key

-- the place of an operation: that of its key's address
abbrev pub place_of_op : MapAttr → MapOp → Place
place_of_op a (Update key _ _) = place_at a (address a key)
place_of_op a (Delete key) = place_at a (address a key)
place_of_op a (Push _ _) = Whole
place_of_op a Pop = Whole
place_of_op a (Store key _ _) = place_at a (address a key)
place_of_op a (Atomic key _ _ _ _) = place_at a (address a key)
place_of_op a (SetLink key _ _) = place_at a (address a key)

-- ---- what an exchange can change of an operation elsewhere
-- whether a map by key has no entry at a place
abbrev pub lacks : Contents → Place → Bool
lacks (Entries m) (AtKey key) = not (map.contains_key m key)
lacks (Links m) (AtKey key) = not (map.contains_key m key)
lacks c p = false

abbrev pub puts : MapOp → Bool
puts (Update _ _ _) = true
puts (Delete _) = false
puts (Push _ _) = false
puts Pop = false
puts (Store _ _ _) = false
puts (Atomic _ _ _ _ _) = false
puts (SetLink _ _ _) = true

-- whether an operation asks for a key that is not there yet
abbrev pub adds_key : MapAttr → Contents → MapOp → Bool
adds_key a c op = puts op && lacks c (place_of_op a op)

-- whether a map by key has no room for one more key
abbrev pub is_full : MapAttr → Contents → Bool
is_full a (Values vs) = false
is_full a (Entries m) = nat_le a.max_entries (map.len m)
is_full a (Items xs) = false
is_full a (Slots ls) = false
is_full a (Links m) = nat_le a.max_entries (map.len m)

-- whether a map of this shape holds bytes under keys
abbrev pub is_by_key : Shape → Bool
is_by_key OfValues = true
is_by_key OfEntries = true
is_by_key OfItems = false
is_by_key OfSlots = false
is_by_key OfLinks = false

-- whether an exchange puts something there
abbrev pub is_put : Back → Bool
is_put (Key _ value) = is_some value
is_put (Ends _ _ _ _) = false
is_put (Link _ id) = is_some id

-- whether an exchange puts a key that is not there yet
abbrev pub puts_key : MapAttr → Contents → Back → Bool
puts_key a c b = is_put b && lacks c (place_of a b)

abbrev pub is_delete : MapOp → Bool
is_delete (Update _ _ _) = false
is_delete (Delete _) = true
is_delete (Push _ _) = false
is_delete Pop = false
is_delete (Store _ _ _) = false
is_delete (Atomic _ _ _ _ _) = false
is_delete (SetLink _ _ _) = false

-- a step with an exchange turned in what it leaves: its reply and its own exchange, or its errno, are the same
abbrev pub then_turned : Step → Back → Step
then_turned (Ok changed) b = goes (exchanged changed.contents b).0 changed.reply changed.back
then_turned (Err errno) b = Err errno
