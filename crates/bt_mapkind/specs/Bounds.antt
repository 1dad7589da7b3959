-- What a map can hold is bounded: keys and values are made of bytes, and ids have 32 bits.
use Rattle.std.specs.Prelude.{ℕ, ◌<◌, ◌^◌, ⊤, All, IfSome}
use Rattle.bt_mapkind.specs.declared.exchange.Back.{Back}
use Rattle.bt_mapkind.specs.declared.exchange.Back.TheVariants.{Key, Ends, Link}
use Rattle.bt_mapkind.specs.declared.request.MapOp.{MapOp}
use Rattle.bt_mapkind.specs.declared.request.MapOp.TheVariants.{Update, Delete, Push, Pop, Store, Atomic, SetLink}
use Rattle.bt_mapkind.specs.Bytes.{AreBytes}
use Rattle.bt_mapkind.specs.Contents.{Contents, Values, Entries, Items, Slots, Links}
use Rattle.bt_mapkind.specs.Well.{EachEntry}

abbrev pub IsId : ℕ → Type 0
IsId id = id < 2 ^ 32

-- each key, value and item is made of bytes, and each id is one
abbrev pub AreBounded : Contents → Type 0
AreBounded (Values vs) = All AreBytes vs
AreBounded (Entries m) = EachEntry m (λ key value. AreBytes key × AreBytes value)
AreBounded (Items xs) = All AreBytes xs
AreBounded (Slots ls) = All (λ slot. IfSome slot IsId) ls
AreBounded (Links m) = EachEntry m (λ key id. AreBytes key × IsId id)

-- and so is what an exchange puts in place
abbrev pub IsBoundedBack : Back → Type 0
IsBoundedBack (Key key value) = AreBytes key × IfSome value AreBytes
IsBoundedBack (Ends front rear put_front put_rear) = IfSome put_front AreBytes × IfSome put_rear AreBytes
IsBoundedBack (Link key id) = AreBytes key × IfSome id IsId

-- and what an operation comes with
abbrev pub IsBoundedOp : MapOp → Type 0
IsBoundedOp (Update key value flag) = AreBytes key × AreBytes value
IsBoundedOp (Delete key) = AreBytes key
IsBoundedOp (Push value flag) = AreBytes value
IsBoundedOp Pop = ⊤
IsBoundedOp (Store key offset bytes) = AreBytes key × AreBytes bytes
IsBoundedOp (Atomic key offset size op operand) = AreBytes key
IsBoundedOp (SetLink key id flag) = AreBytes key × IsId id
