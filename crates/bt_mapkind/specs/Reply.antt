-- The reply to an operation, as it follows from the exchange that takes the operation back: what was taken or overwritten
-- stands there.
use Rattle.std.specs.Prelude.{◌≡◌, ℕ, List, [], Some, None, Result, Ok, Err}
use Rattle.bt_mapkind.specs.declared.attr.MapAttr.{MapAttr}
use Rattle.bt_mapkind.specs.declared.exchange.Back.{Back}
use Rattle.bt_mapkind.specs.declared.exchange.Back.TheVariants.{Key, Ends, Link}
use Rattle.bt_mapkind.specs.declared.request.MapOp.{MapOp}
use Rattle.bt_mapkind.specs.declared.request.MapOp.TheVariants.{Pop, Atomic}
use Rattle.bt_mapkind.specs.declared.request.MapReply.{MapReply}
use Rattle.bt_mapkind.specs.declared.request.MapReply.TheVariants.{Done, Value}
use Rattle.bt_mapkind.specs.declared.request.MapFault.{MapFault}
use Rattle.bt_mapkind.specs.Atomic.{part_of, size_in_bytes}
use Rattle.bt_mapkind.specs.Contents.{Contents}
use Rattle.bt_mapkind.specs.Kept.{some_bytes}
use Rattle.bt_mapkind.specs.Step.{Changed, map_step, atomic_reply}

-- the value or the item that an exchange is to put in place, the one for the front before the one for the rear
abbrev pub taken_in : Back → List ℕ
taken_in (Key key value) = some_bytes value
taken_in (Ends front rear None put_rear) = some_bytes put_rear
taken_in (Ends front rear (Some item) put_rear) = item
taken_in (Link key id) = []

abbrev pub reply_with : MapOp → Back → MapReply
reply_with Pop back = Value (taken_in back)
reply_with (Atomic key offset size op operand) back = atomic_reply op (part_of (taken_in back) offset (size_in_bytes size))
reply_with _ back = Done

-- the reply and the exchange of an operation whose exchange is told apart
abbrev pub answer_with : MapOp → Result (Unit {0}) MapFault → Back → Result (MapReply × Back) MapFault
answer_with op (Ok done) back = Ok (reply_with op back, back)
answer_with op (Err fault) back = Err fault

-- the reply of every accepted operation follows from its exchange
abbrev pub RepliesWith : MapAttr → Contents → MapOp → Changed → Type 0
RepliesWith a c op changed = map_step a c op ≡ Ok changed → changed.reply ≡ reply_with op changed.back
