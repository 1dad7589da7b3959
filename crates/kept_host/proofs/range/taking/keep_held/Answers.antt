use Rattle.std.proofs.Common.{refl, subst}
use Rattle.std.specs.Io.KnownBytes.{Appends}
use Rattle.console_text.specs.Written.{WritesFront}
use Rattle.sqlite.specs.Held.{state}
use Rattle.kept_lines.specs.Kept.{IsKept, IsUnkept}
use Rattle.kept_host.proofs.range.taking.keep_held.Goals as goal

pub returns-in-Err-clause-lost : goal.returns-in-Err-clause-lost
returns-in-Err-clause-lost g c =
    (c.keep_events.ensures.clean, subst (IsUnkept (state g.D.Store c.args.conn.now) (state g.D.Store c.keep_events.new.conn)) c.as_slice.ensures.value c.in-Err.ensures.unkept, refl)

pub returns-in-Ok-put-clause-kept : goal.returns-in-Ok-put-clause-kept
returns-in-Ok-put-clause-kept g c = subst (IsKept (state g.D.Store c.args.conn.now) (state g.D.Store c.keep_events.new.conn)) c.as_slice.ensures.value c.in-Ok.ensures.kept

pub returns-in-Ok-put-clause-text : goal.returns-in-Ok-put-clause-text
returns-in-Ok-put-clause-text g c = subst (Appends (g.W.Output.contents c.args.out.now) (g.W.Output.contents c.put.new.out)) c.as_slice-2.ensures.value c.in-Ok-put.ensures.text

pub returns-in-Err-put-clause-lost : goal.returns-in-Err-put-clause-lost
returns-in-Err-put-clause-lost g c = (
  c.keep_events.ensures.clean,
  subst (IsKept (state g.D.Store c.args.conn.now) (state g.D.Store c.keep_events.new.conn)) c.as_slice.ensures.value c.in-Ok.ensures.kept,
  subst (WritesFront (g.W.Output.contents c.args.out.now) (g.W.Output.contents c.put.new.out)) c.as_slice-2.ensures.value c.in-Err-put.ensures.text,
)

pub returns-in-Ok-put-clause-times : goal.returns-in-Ok-put-clause-times
returns-in-Ok-put-clause-times g c = c.in-Ok.ensures.times
