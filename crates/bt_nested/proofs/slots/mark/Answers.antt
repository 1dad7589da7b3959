use Rattle.std.proofs.Common.{ap, refl, ◌∙◌}
use Rattle.bt_nested.proofs.FilledLemmas.{with_rows, marked_taken, marked_kept, marked_put, marked_room, marked_out}
use Rattle.bt_nested.proofs.slots.mark.Goals as goal

pub insert-requires-clause-room : goal.insert-requires-clause-room
insert-requires-clause-room c = marked_room c.args.filled.now.rows c.args.index c.in-Err.place _ c.args.there c.in-Err.ensures.absent c.if-there.true c.requires.room

pub returns-then-not-there : goal.returns-then-not-there
returns-then-not-there c = c.remove.ensures.removed ∙ ap (with_rows c.args.filled.now) (marked_taken c.args.filled.now.rows _ c.args.index c.in-Ok.place c.args.there c.requires.rises c.in-Ok.ensures.found c.if-not-there.true refl)

pub returns-else-not-there : goal.returns-else-not-there
returns-else-not-there c = ap (with_rows c.args.filled.now) (marked_kept c.args.filled.now.rows c.args.index c.in-Ok.place c.args.there c.requires.rises c.in-Ok.ensures.found c.if-not-there.false)

pub returns-then-there : goal.returns-then-there
returns-then-there c = c.insert.ensures ∙ ap (with_rows c.args.filled.now) (marked_put c.args.filled.now.rows _ c.args.index c.in-Err.place c.args.there c.in-Err.ensures.absent c.if-there.true refl)

pub returns-else-there : goal.returns-else-there
returns-else-there c = ap (with_rows c.args.filled.now) (marked_out c.args.filled.now.rows c.args.index c.in-Err.place c.args.there c.in-Err.ensures.absent c.if-there.false)
