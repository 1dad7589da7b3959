use Rattle.std.proofs.Common.{subst, ◌∙◌}
use Rattle.std.specs.Io.KnownBytes.{Appends}
use Rattle.console_text.specs.Written.{WritesFront}
use Rattle.sqlite.specs.Held.{state}
use Rattle.thread_kept_frames.proofs.Disk.{untold_left, untold_stops, told_left, front_left}
use Rattle.thread_kept_frames.proofs.keeping.keep_frames.Goals as goal

-- ---- it is not kept
pub returns-in-Err-clause-left : goal.returns-in-Err-clause-left
returns-in-Err-clause-left g c clean t on =
    untold_left c.args.frames.items c.args.book.plain (g.W.Output.contents c.args.out.now) t (state g.D.Store c.keep_portion.new.conn) (c.keep_portion.ensures.left clean t on)

pub returns-in-Err-clause-stops : goal.returns-in-Err-clause-stops
returns-in-Err-clause-stops g c = untold_stops c.args.frames.items c.args.book.plain (g.W.Output.contents c.args.out.now) _ (state g.D.Store c.keep_portion.new.conn) c.in-Err.fault c.in-Err.ensures.stops

-- ---- it is kept and told
pub returns-in-Ok-put-clause-served : goal.returns-in-Ok-put-clause-served
returns-in-Ok-put-clause-served g c = record {
  served = c.in-Ok.ensures.served;
  wrote = subst (Appends (g.W.Output.contents c.args.out.now) (g.W.Output.contents c.put.new.out)) (c.as_slice.ensures.value ∙ c.in-Ok.ensures.text) c.in-Ok-put.ensures.text;
}

pub returns-in-Ok-put-clause-left : goal.returns-in-Ok-put-clause-left
returns-in-Ok-put-clause-left g c clean t on =
    told_left c.args.frames.items c.args.book.plain (g.W.Output.contents c.args.out.now) c.in-Ok.served.ends.items c.in-Ok.served.book.plain c.in-Ok.ensures.served (g.W.Output.contents c.put.new.out)
    (returns-in-Ok-put-clause-served g c).wrote t (state g.D.Store c.keep_portion.new.conn) (c.in-Ok.ensures.kept clean t on).leaves

-- ---- it is kept, and not all is written
pub returns-in-Err-put-clause-left : goal.returns-in-Err-put-clause-left
returns-in-Err-put-clause-left g c clean t on =
    front_left c.args.frames.items c.args.book.plain (g.W.Output.contents c.args.out.now) c.in-Ok.served.ends.items c.in-Ok.served.book.plain c.in-Ok.ensures.served (g.W.Output.contents c.put.new.out)
    (subst (WritesFront (g.W.Output.contents c.args.out.now) (g.W.Output.contents c.put.new.out)) (c.as_slice.ensures.value ∙ c.in-Ok.ensures.text) c.in-Err-put.ensures.text)
    t (state g.D.Store c.keep_portion.new.conn) (c.in-Ok.ensures.kept clean t on).leaves

pub returns-in-Err-put-clause-stops : goal.returns-in-Err-put-clause-stops
returns-in-Err-put-clause-stops g c = record {
  ends = c.in-Ok.served.ends.items;
  left = c.in-Ok.served.book.plain;
  served = c.in-Ok.ensures.served;
  front = subst (WritesFront (g.W.Output.contents c.args.out.now) (g.W.Output.contents c.put.new.out)) (c.as_slice.ensures.value ∙ c.in-Ok.ensures.text) c.in-Err-put.ensures.text;
  disk = c.in-Ok.ensures.kept;
}
