-- What a map promises of its answers.
use Rattle.std.specs.Prelude.{◌≡◌, ◌≢◌, ⊤, IsTrue, Result, Ok, Err}
use Rattle.bt_mapkind.specs.declared.attr.MapAttr.{MapAttr}
use Rattle.bt_mapkind.specs.Contents.{Contents}
use Rattle.bt_mapkind.specs.declared.request.MapOp.{MapOp}
use Rattle.bt_mapkind.specs.declared.request.MapReply.{MapReply}
use Rattle.bt_mapkind.specs.declared.request.MapFault.{MapFault}
use Rattle.bt_mapkind.specs.declared.request.MapFault.TheVariants.{Errno, NoMemory}
use Rattle.bt_mapkind.specs.declared.request.Query.{Query}
use Rattle.bt_mapkind.specs.declared.errno.Errno.{Errno as Error}
use Rattle.bt_mapkind.specs.declared.exchange.Back.{Back}
use Rattle.bt_mapkind.specs.Seen.{Seen}
use Rattle.bt_mapkind.specs.Step.{map_step, goes}
use Rattle.bt_mapkind.specs.Read.{map_read}
use Rattle.bt_mapkind.specs.Exchange.{exchange_fits, exchanged}

-- an errno is the one that the table gives; lack of memory can stand in place of any answer
abbrev pub IsFault : {X : Type 0} → Result X Error → MapFault → Type 0
IsFault given (Errno errno) = given ≡ Err errno
IsFault given NoMemory = ⊤

-- the answer to a question at contents is the table's
abbrev pub Replies : MapAttr → Contents → Query → Result MapReply MapFault → Type 0
Replies a c query (Ok reply) = map_read a c query ≡ Ok reply
Replies a c query (Err fault) = IsFault (map_read a c query) fault

-- an answer: the table's, and never lack of memory if the room was reserved
pub record IsAnswer (s : Seen) (query : Query) (result : Result MapReply MapFault) : Type 0 where
  pub told : Replies s.attr s.contents query result
  pub room : IsTrue s.roomy → result ≢ Err NoMemory

-- what an operation left of contents, its reply and its exchange are the table's; or an errno, and nothing has changed
abbrev pub Follows : MapAttr → Contents → MapOp → Result (MapReply × Back) MapFault → Contents → Type 0
Follows a old op (Ok done) new = map_step a old op ≡ goes new done.0 done.1
Follows a old op (Err fault) new = IsFault (map_step a old op) fault × (new ≡ old)

-- attributes and charge stay, and whether its room was reserved
pub record SameMake (old new : Seen) : Type 0 where
  pub attr : new.attr ≡ old.attr
  pub charge : new.charge ≡ old.charge
  pub roomy : new.roomy ≡ old.roomy

-- a change that was done: contents, reply and exchange are the table's, and the exchange fits and leads back
pub record IsDone (old : Seen) (op : MapOp) (reply : MapReply) (back : Back) (new : Seen) : Type 0 where
  pub step : map_step old.attr old.contents op ≡ goes new.contents reply back
  pub make : SameMake old new
  pub fits : IsTrue (exchange_fits new.attr new.contents back)
  pub restores : (exchanged new.contents back).0 ≡ old.contents

-- a change that was refused: the errno is the table's, or lack of memory if the room was not reserved; and nothing has
-- changed
pub record IsRefused (old : Seen) (op : MapOp) (fault : MapFault) (new : Seen) : Type 0 where
  pub told : IsFault (map_step old.attr old.contents op) fault
  pub room : IsTrue old.roomy → fault ≢ NoMemory
  pub same : new ≡ old

abbrev pub IsChange : Seen → MapOp → Result (MapReply × Back) MapFault → Seen → Type 0
IsChange old op (Ok done) new = IsDone old op done.0 done.1 new
IsChange old op (Err fault) new = IsRefused old op fault new

-- a turning: contents and exchange have changed places, and it can be turned again
pub record IsTurned (old : Seen) (back : Back) (new : Seen) (left : Back) : Type 0 where
  pub exchange : exchanged old.contents back ≡ (new.contents, left)
  pub make : SameMake old new
  pub fits : IsTrue (exchange_fits new.attr new.contents left)
