use Rattle.std.proofs.Common.{subst, ℕ, List, length}
use Rattle.std.specs.Io.KnownBytes.{Appends}
use Rattle.console_text.specs.Written.{WritesFront}
use Rattle.bt_workers.specs.declared.result.FrameResult.{FrameResult}
use Rattle.thread_host_run.specs.FrameTexts.{ends_text}
use Rattle.thread_host_run.proofs.host_run.serve_frames.Goals as goal

pub returns-in-Ok-clause-served : goal.returns-in-Ok-clause-served
returns-in-Ok-clause-served g c = record {
  served = c.in_ok-book.ensures;
  wrote =
      subst (λ (ends : List FrameResult). Appends (g.W.Output.contents c.args.out.now) (g.W.Output.contents c.put_ends.new.out) (ends_text ends (length c.in_ok-book.book.plain.line.moments))) c.deref.ensures.value
      (subst (λ (moments : ℕ). Appends (g.W.Output.contents c.args.out.now) (g.W.Output.contents c.put_ends.new.out) (ends_text c.deref.result.now moments)) c.moments.ensures c.in-Ok.ensures.text);
}

pub returns-in-Ok-clause-tells : goal.returns-in-Ok-clause-tells
returns-in-Ok-clause-tells g c = record {
  ends = c.in_ok-book.ends.items;
  closed = c.in_ok-book.book.plain;
  served = c.in_ok-book.ensures;
  wrote =
      subst (λ (ends : List FrameResult). Appends (g.W.Output.contents c.args.out.now) (g.W.Output.contents c.put_ends.new.out) (ends_text ends (length c.in_ok-book.book.plain.line.moments))) c.deref.ensures.value
      (subst (λ (moments : ℕ). Appends (g.W.Output.contents c.args.out.now) (g.W.Output.contents c.put_ends.new.out) (ends_text c.deref.result.now moments)) c.moments.ensures c.in-Ok.ensures.text);
}

pub returns-clause-tells : goal.returns-clause-tells
returns-clause-tells g c = record {
  ends = c.in_ok-book.ends.items;
  closed = c.in_ok-book.book.plain;
  served = c.in_ok-book.ensures;
  wrote =
      subst (λ (ends : List FrameResult). WritesFront (g.W.Output.contents c.args.out.now) (g.W.Output.contents c.put_ends.new.out) (ends_text ends (length c.in_ok-book.book.plain.line.moments))) c.deref.ensures.value
      (subst (λ (moments : ℕ). WritesFront (g.W.Output.contents c.args.out.now) (g.W.Output.contents c.put_ends.new.out) (ends_text c.deref.result.now moments)) c.moments.ensures c.in-Err.ensures.text);
}
