-- An operation on a box, with what it leaves.
use Rattle.std.specs.Prelude.{◌≡◌, ℕ, Result, Ok, Err, MatchOption}
use Rattle.std.specs.FinMap as map
use Rattle.bt_mapkind.specs.declared.errno.Errno.TheVariants.{ENOENT}
use Rattle.bt_mapkind.specs.declared.request.MapFault.{MapFault}
use Rattle.bt_mapkind.specs.declared.request.MapFault.TheVariants.{Errno}
use Rattle.bt_mapkind.specs.declared.request.MapOp.{MapOp}
use Rattle.bt_mapkind.specs.Seen.{Seen}
use Rattle.bt_mapkind.specs.Step.{map_step}
use Rattle.bt_mapkind.specs.Reply.{reply_with}
use Rattle.bt_mapkind.specs.Kept.{room_of}
use Rattle.bt_mapkind.specs.Answers.{IsDone, IsFault}
use Rattle.bt_objects.specs.declared.operated.Operated.{Operated}
use Rattle.bt_objects.specs.Boxes.{ById, LeadsTo}

-- a box on which an operation was done: what is left of it takes it back
pub record IsOperatedBox (old : Seen) (op : MapOp) (left : Operated) (new : Seen) : Type 0 where
  pub done : IsDone old op (reply_with op left.kept.back) left.kept.back new
  pub room : left.kept.room ≡ room_of old.attr
  pub kind : left.kind ≡ old.attr.kind

-- a box that refuses an operation, by the table's errno or out of memory, has not changed
abbrev pub Operates : Seen → MapOp → Result Operated MapFault → Seen → Type 0
Operates old op (Ok left) new = IsOperatedBox old op left new
Operates old op (Err fault) new = IsFault (map_step old.attr old.contents op) fault × (new ≡ old)

-- an operation at an id: the box is operated on and the others stay, or ENOENT and all stay
abbrev pub OperatedAt : ById Seen → ℕ → MapOp → Result Operated MapFault → ById Seen → Type 0
OperatedAt old id op result new =
    MatchOption (map.get old id) ((result ≡ Err (Errno ENOENT)) × (new ≡ old)) (λ s. LeadsTo old new id (λ s'. Operates s op result s'))
