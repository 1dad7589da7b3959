-- A map that may want memory answers as another that has reserved its room, or wants memory and has not changed.
use Rattle.std.proofs.Common.{◌≡◌, Bool, true, false, Result, Ok, Err, refl, ap}
use Rattle.bt_mapkind.specs.declared.exchange.Back.{Back}
use Rattle.bt_mapkind.specs.declared.request.MapFault.{MapFault}
use Rattle.bt_mapkind.specs.declared.request.MapOp.{MapOp}
use Rattle.bt_mapkind.specs.declared.request.MapReply.{MapReply}
use Rattle.bt_mapkind.specs.declared.request.Query.{Query}
use Rattle.bt_mapkind.specs.Seen.{Seen}
use Rattle.test_books.specs.Scarce.{scarce}
use Rattle.bt_mapkind.specs.Answers.{SameMake, IsAnswer, IsChange, IsTurned}

same_make : (old new : Seen) → SameMake old new → SameMake (scarce old) (scarce new)
same_make old new h = record { attr = h.attr; charge = h.charge; roomy = refl }

pub answers_too : (s : Seen) (query : Query) (result : Result MapReply MapFault) → IsAnswer s query result → IsAnswer (scarce s) query result
answers_too s query (Ok reply) h = record { told = h.told; room = λ t. cc }
answers_too s query (Err fault) h = record { told = h.told; room = λ t. cc }

pub changes_too : (old new : Seen) (op : MapOp) (result : Result (MapReply × Back) MapFault) → IsChange old op result new → IsChange (scarce old) op result (scarce new)
changes_too old new op (Ok done) h = record { step = h.step; make = same_make old new h.make; fits = h.fits; restores = h.restores }
changes_too old new op (Err fault) h = record { told = h.told; room = λ t. cc; same = ap scarce h.same }

pub turns_too : (old new : Seen) (back left : Back) → IsTurned old back new left → IsTurned (scarce old) back (scarce new) left
turns_too old new back left h = record { exchange = h.exchange; make = same_make old new h.make; fits = h.fits }
