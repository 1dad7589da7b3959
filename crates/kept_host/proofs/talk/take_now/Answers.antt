use Rattle.std.proofs.Common.{refl}
use Rattle.std.proofs.KnownBytes.{Keeps-trans}
use Rattle.sqlite.specs.Held.{state}
use Rattle.kept_lines.specs.Kept.{IsOnDisk}
use Rattle.kept_host.proofs.OnBook.{comes_kept}
use Rattle.kept_host.proofs.RangeTalk.{part_stopped, part_written}
use Rattle.kept_host.proofs.talk.take_now.Goals as goal

pub returns-clause-took : goal.returns-clause-took
returns-clause-took g c =
    let out = g.W.Output.contents in
    record {
      taken = c.in-Ok.taken;
      book = c.take_range.new.book.plain;
      comes = comes_kept c.args.range c.args.book.now.plain c.take_range.new.book.plain (out c.args.out.now) (out c.take_range.new.out) (out c.told.new.out) c.in-Ok.taken c.in-Ok.ensures.taken
          (Keeps-trans (out c.take_range.new.out) (out c.flush_all.new.self) (out c.told.new.out) c.flush_all.ensures.bytes c.told.ensures.kept);
      same = λ stays. c.in-Ok.ensures.same stays.0 stays.1.0 stays.1.1;
      boxes = refl;
      is = rw (c.told.ensures.same, c.count.ensures.runs, c.count.ensures.summary, c.counts.ensures) refl;
    }

pub returns-clause-kept : goal.returns-clause-kept
returns-clause-kept g c = rw c.told.ensures.same c.in-Ok.ensures.kept

pub returns-in-Err-clause-part : goal.returns-in-Err-clause-part
returns-in-Err-clause-part g c clean t on =
    part_stopped c.args.range c.args.book.now.plain t (state g.D.Store c.take_range.new.conn) (g.W.Output.contents c.args.out.now) (g.W.Output.contents c.take_range.new.out) (λ t. IsOnDisk t (state g.D.Store c.args.conn.now) c.args.book.now.plain)
    clean on c.in-Err.fault c.in-Err.ensures.stops

pub returns-in-Err-flush_all-clause-part : goal.returns-in-Err-flush_all-clause-part
returns-in-Err-flush_all-clause-part g c clean t on =
    let out = g.W.Output.contents in
    part_written c.args.range c.args.book.now.plain t (state g.D.Store c.take_range.new.conn) (out c.args.out.now) (out c.flush_all.new.self) c.take_range.new.book.plain c.in-Ok.taken
    (comes_kept c.args.range c.args.book.now.plain c.take_range.new.book.plain (out c.args.out.now) (out c.take_range.new.out) (out c.flush_all.new.self) c.in-Ok.taken c.in-Ok.ensures.taken c.flush_all.ensures.bytes)
    (c.in-Ok.ensures.same clean t on) (c.in-Ok.ensures.kept clean t on)
