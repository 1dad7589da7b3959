use Rattle.std.proofs.Common.{inl, inr}
use Rattle.sqlite.specs.Held.{state}
use Rattle.kept_lines.proofs.Added.{added_none, added_these}
use Rattle.kept_lines.proofs.script.keep_events.Goals as goal

pub returns-then-is_empty-clause-times : goal.returns-then-is_empty-clause-times
returns-then-is_empty-clause-times g c = added_none c.args.time (state g.D.Store c.args.conn.now)

pub returns-in-Ok-clause-times : goal.returns-in-Ok-clause-times
returns-in-Ok-clause-times g c = added_these c.args.time (state g.D.Store c.args.conn.now) (state g.D.Store c.keep.new.conn) c.args.events.now (λ clean t es was. c.in-Ok.ensures.times clean t es was)

pub returns-in-Ok-clause-kept : goal.returns-in-Ok-clause-kept
returns-in-Ok-clause-kept g c clean t b after on leads =
    let h = c.in-Ok.ensures.adds t b after on.keeps leads in
    record { keeps = h.done clean; leaves = h.durable clean }

pub returns-in-Err-clause-unkept : goal.returns-in-Err-clause-unkept
returns-in-Err-clause-unkept g c clean t b after on leads = record {
  keeps = c.in-Err.ensures.stays clean t b on.keeps;
  leaves = λ db may. elim (c.in-Err.ensures.crash.crash clean db may) [ inl before ↦ inl (on.leaves db before) | inr held ↦ inr (held t b after on.keeps leads) ];
}

pub returns-in-Err-clause-reason : goal.returns-in-Err-clause-reason
returns-in-Err-clause-reason g c clean t es was = c.in-Err.ensures.reason clean t es was
