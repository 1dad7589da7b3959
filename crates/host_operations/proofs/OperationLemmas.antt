-- What an operation leaves of one map: contents that it can hold, and an exchange that what is reserved holds.
use Rattle.std.proofs.Common.{◌≡◌, ℕ, [], Option, Some, None, Result, Ok, Err, IsSome, refl, sym, ap, subst, ◌∙◌}
use Rattle.std.specs.Option.{MatchOption}
use Rattle.std.specs.FinMap as map
use Rattle.bt_mapkind.specs.declared.attr.MapAttr.{MapAttr}
use Rattle.bt_mapkind.specs.declared.errno.Errno.{Errno as Error}
use Rattle.bt_mapkind.specs.declared.errno.Errno.TheVariants.{ENOENT}
use Rattle.bt_mapkind.specs.declared.exchange.Back.{Back}
use Rattle.bt_mapkind.specs.declared.request.MapOp.{MapOp}
use Rattle.bt_mapkind.specs.declared.request.MapReply.{MapReply}
use Rattle.bt_mapkind.specs.declared.request.MapFault.{MapFault}
use Rattle.bt_mapkind.specs.declared.request.MapFault.TheVariants.{Errno, NoMemory}
use Rattle.bt_mapkind.specs.Bounds.{IsBoundedOp, AreBounded}
use Rattle.bt_mapkind.specs.Kept.{Kept, room_of}
use Rattle.bt_mapkind.specs.Answers.{IsDone}
use Rattle.bt_mapkind.specs.Contents.{Contents}
use Rattle.bt_mapkind.specs.Well.{IsWell, shape_of}
use Rattle.bt_mapkind.specs.Seen.{Seen}
use Rattle.bt_mapkind.specs.Step.{Changed, map_step, goes}
use Rattle.bt_mapkind.proofs.Turning.{taken_back}
use Rattle.map_laws.proofs.Bounded.{done_bounded}
use Rattle.bt_objects.specs.declared.operated.Operated.{Operated}
use Rattle.bt_objects.specs.Boxes.{ById, LeadsTo}
use Rattle.bt_objects.specs.Operations.{Operates, OperatedAt}
use Rattle.host_state.specs.declared.reply.Reply.{Reply}
use Rattle.bt_mapkind.specs.Inner.{holds_ids}
use Rattle.host_retirement.specs.Gathered.{holds_ids_in}
use Rattle.host_retirement.proofs.EntryLemmas.{holds_ids_by}
use Rattle.host_state.specs.Act.{reply_of}
use Rattle.bt_mapkind.specs.Reply.{reply_with}
use Rattle.host_state.specs.Settled.{ids_in}
use Rattle.host_state.proofs.ByIdLemmas.{get-put_same, put_there}
use Rattle.host_retirement.proofs.IdLemmas.{HoldsNoIds, none_in}

-- ---- no ids
-- an operation leaves contents that the map can hold
pub well_left : (a : MapAttr) (old new : Contents) (op : MapOp) (reply : MapReply) (back : Back) → IsWell a old → map_step a old op ≡ goes new reply back → IsWell a new
well_left a old new op reply back w e = (taken_back a old op (record { contents = new; reply = reply; back = back }) w e).turnable.well

-- an operation on contents of bytes leaves no ids
pub bytes_left : (a : MapAttr) (c : Contents) (op : MapOp) (changed : Changed) → IsWell a c → HoldsNoIds (shape_of c) → map_step a c op ≡ Ok changed → ids_in changed.contents ≡ []
bytes_left a c op changed w none e = none_in changed.contents (subst HoldsNoIds (sym w.shape ∙ (taken_back a c op changed w e).turnable.well.shape) none)

-- ---- the box of an id that is there
pub record IsLed (old new : ById Seen) (id : ℕ) (op : MapOp) (result : Result Operated MapFault) : Type 0 where
  pub before : Seen
  pub there : map.get old id ≡ Some before
  pub leads : LeadsTo old new id (λ after. Operates before op result after)

pub led : (old new : ById Seen) (id : ℕ) (op : MapOp) (result : Result Operated MapFault) → IsSome (map.get old id) → OperatedAt old id op result new → IsLed old new id op result
led old new id op result there operated = at (map.get old id) refl there operated
  where
    at : (o : Option Seen) → map.get old id ≡ o → IsSome o
        → MatchOption o ((result ≡ Err (Errno ENOENT)) × (new ≡ old)) (λ s. LeadsTo old new id (λ after. Operates s op result after)) → IsLed old new id op result
    at None e t m = cc
    at (Some s) e t m = record { before = s; there = e; leads = m }

-- the box of an id was operated on, what is kept takes it back, and what was bounded is bounded still
pub record IsOperated (old : ById Seen) (id : ℕ) (op : MapOp) (reply : Reply) (kept : Kept) (new : ById Seen) : Type 0 where
  pub before : Seen
  pub after : Seen
  pub there : map.get old id ≡ Some before
  pub told : MapReply
  pub done : IsDone before op told kept.back after
  pub reply_is : reply_of op told ≡ reply
  pub boxes : new ≡ map.insert old id after
  pub room : kept.room ≡ room_of before.attr
  pub bounded : AreBounded before.contents → AreBounded after.contents

pub is_operated : (old new : ById Seen) (id : ℕ) (op : MapOp) (left : Operated) → IsBoundedOp op → IsLed old new id op (Ok left) → IsOperated old id op (reply_of op (reply_with op left.kept.back)) left.kept new
is_operated old new id op left b l = record {
  before = l.before;
  after = l.leads.seen;
  there = l.there;
  told = reply_with op left.kept.back;
  done = l.leads.led.done;
  reply_is = refl;
  boxes = l.leads.others;
  room = l.leads.led.room;
  bounded = done_bounded l.before l.leads.seen op _ left.kept.back b l.leads.led.done;
}

-- its type is the one that is told
pub kind_is : (old new : ById Seen) (id : ℕ) (op : MapOp) (left : Operated) → IsLed old new id op (Ok left) → holds_ids left.kind ≡ holds_ids_in new id
kind_is old new id op left l =
    ap holds_ids (l.leads.led.kind ∙ ap (λ (a : MapAttr). a.kind) (sym l.leads.led.done.make.attr))
    ∙ sym (ap (λ b. holds_ids_by (map.get b id)) l.leads.others ∙ ap holds_ids_by (get-put_same old id (Some l.leads.seen)))

pub operated_there : (old new : ById Seen) (id : ℕ) (op : MapOp) (left : Operated) → IsBoundedOp op → IsSome (map.get old id) → OperatedAt old id op (Ok left) new
    → IsOperated old id op (reply_of op (reply_with op left.kept.back)) left.kept new
operated_there old new id op left bounded there operated = is_operated old new id op left bounded (led old new id op (Ok left) there operated)

pub kind_there : (old new : ById Seen) (id : ℕ) (op : MapOp) (left : Operated) → IsSome (map.get old id) → OperatedAt old id op (Ok left) new → holds_ids left.kind ≡ holds_ids_in new id
kind_there old new id op left there operated = kind_is old new id op left (led old new id op (Ok left) there operated)

-- the box of an id refuses an operation, and nothing changes
pub record IsNotOperated (old : ById Seen) (id : ℕ) (op : MapOp) (errno : Error) (new : ById Seen) : Type 0 where
  pub before : Seen
  pub there : map.get old id ≡ Some before
  pub told : map_step before.attr before.contents op ≡ Err errno
  pub same : new ≡ old

pub is_not_operated : (old new : ById Seen) (id : ℕ) (op : MapOp) (errno : Error) → IsLed old new id op (Err (Errno errno)) → IsNotOperated old id op errno new
is_not_operated old new id op errno l =
    let r = l.leads.led in record {
      before = l.before;
      there = l.there;
      told = r.0;
      same = l.leads.others ∙ ap (map.insert old id) r.1 ∙ put_there old id (Some l.before) l.there;
    }

pub unchanged : (old new : ById Seen) (id : ℕ) (op : MapOp) → IsLed old new id op (Err NoMemory) → new ≡ old
unchanged old new id op l = l.leads.others ∙ ap (map.insert old id) l.leads.led.1 ∙ put_there old id (Some l.before) l.there
