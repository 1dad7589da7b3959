use Rattle.std.proofs.Common.{sym, subst}
use Rattle.sqlite.specs.Held.{state}
use Rattle.kept_book.specs.Leading.{LeadTo}
use Rattle.thread_kept_frames.proofs.Disk.{noted_lead, portion_before, portion_unserved, portion_behind, portion_cut, portion_unkept, still_cut}
use Rattle.thread_kept_frames.proofs.keeping.keep_portion.Goals as goal

-- ---- no frame was served
pub returns-in-Err-clause-left : goal.returns-in-Err-clause-left
returns-in-Err-clause-left g c clean t on = portion_before c.args.frames.items c.args.book.plain t (state g.D.Store c.args.conn.now) on.leaves

pub returns-in-Err-clause-stops : goal.returns-in-Err-clause-stops
returns-in-Err-clause-stops g c = portion_unserved c.args.frames.items c.args.book.plain (state g.D.Store c.args.conn.now) c.in-Err.fault c.in-Err.ensures.why

-- ---- what they changed is not noted
pub returns-in-Err-noted-clause-left : goal.returns-in-Err-noted-clause-left
returns-in-Err-noted-clause-left g c clean t on = portion_before c.args.frames.items c.args.book.plain t (state g.D.Store c.args.conn.now) on.leaves

pub returns-in-Err-noted-clause-stops : goal.returns-in-Err-noted-clause-stops
returns-in-Err-noted-clause-stops g c =
    let b = c.args.book.plain in
    let it = c.in-Ok.served in
    portion_unkept c.args.frames.items b it.ends.items it.book.plain c.in-Ok.ensures.served _ (state g.D.Store c.args.conn.now) c.unkept.result c.in-Err-noted.why c.unkept.ensures
    (λ clean t on. still_cut c.args.frames.items b it.ends.items it.book.plain c.in-Ok.ensures.served t (state g.D.Store c.args.conn.now) on)

-- ---- it is kept
pub returns-in-Ok-keep_events-clause-kept : goal.returns-in-Ok-keep_events-clause-kept
returns-in-Ok-keep_events-clause-kept g c clean t on =
    let b = c.args.book.plain in
    let after = c.in-Ok.served.book.plain in
    let leads : LeadTo b c.as_slice.result.now after =
    subst (λ es. LeadTo b es after) (sym c.as_slice.ensures.value)
    (noted_lead b after c.args.frames.items c.in-Ok.served.ends.items c.last_serial-since.result c.in-Ok-noted.events.items c.is_well.ensures c.in-Ok.ensures.served c.last_serial-since.ensures c.in-Ok-noted.ensures.changes c.in-Ok-noted.ensures.whole) in
    c.in-Ok-keep_events.ensures.kept clean t b after on leads

pub returns-in-Ok-keep_events-clause-left : goal.returns-in-Ok-keep_events-clause-left
returns-in-Ok-keep_events-clause-left g c clean t on =
    portion_behind c.args.frames.items c.args.book.plain c.in-Ok.served.ends.items c.in-Ok.served.book.plain c.in-Ok.ensures.served t (state g.D.Store c.keep_events.new.conn)
    (returns-in-Ok-keep_events-clause-kept g c clean t on).leaves

-- ---- it is not kept
pub returns-clause-left : goal.returns-clause-left
returns-clause-left g c clean t on =
    let b = c.args.book.plain in
    let after = c.in-Ok.served.book.plain in
    let leads : LeadTo b c.as_slice.result.now after =
    subst (λ es. LeadTo b es after) (sym c.as_slice.ensures.value)
    (noted_lead b after c.args.frames.items c.in-Ok.served.ends.items c.last_serial-since.result c.in-Ok-noted.events.items c.is_well.ensures c.in-Ok.ensures.served c.last_serial-since.ensures c.in-Ok-noted.ensures.changes c.in-Ok-noted.ensures.whole) in
    portion_cut c.args.frames.items b c.in-Ok.served.ends.items after c.in-Ok.ensures.served t (state g.D.Store c.keep_events.new.conn) (c.in-Err-keep_events.ensures.unkept clean t b after on leads)

pub returns-clause-stops : goal.returns-clause-stops
returns-clause-stops g c =
    let b = c.args.book.plain in
    let after = c.in-Ok.served.book.plain in
    let leads : LeadTo b c.as_slice.result.now after =
    subst (λ es. LeadTo b es after) (sym c.as_slice.ensures.value)
    (noted_lead b after c.args.frames.items c.in-Ok.served.ends.items c.last_serial-since.result c.in-Ok-noted.events.items c.is_well.ensures c.in-Ok.ensures.served c.last_serial-since.ensures c.in-Ok-noted.ensures.changes c.in-Ok-noted.ensures.whole) in
    portion_unkept c.args.frames.items b c.in-Ok.served.ends.items after c.in-Ok.ensures.served _ (state g.D.Store c.keep_events.new.conn) c.unkept-in-Err-keep_events.result c.in-Err-keep_events.why c.unkept-in-Err-keep_events.ensures
    (λ clean t on. c.in-Err-keep_events.ensures.unkept clean t b after on leads)
