use Rattle.std.proofs.Common.{rules}
use Rattle.thread_lock.specs.Plays.{Draws, TakesTurn}
use Rattle.thread_lock.proofs.Calling.{entered}
use Rattle.thread_lock.proofs.turns.Turns.enter.Goals.{then-not-draw_next, else-not-draw_next}
use Rattle.thread_lock.proofs.turns.Turns.enter.Goals as goal

pub returns-then-not-is_served-clause-enters : goal.returns-then-not-is_served-clause-enters
returns-then-not-is_served-clause-enters g c =
    let draws : Draws c.args.place.now.me c.if-not-draw_next.next c.if-not-draw_next.place.me = elim c.if-not-draw_next.branch [ then-not-draw_next w ↦ search rules | else-not-draw_next w ↦ search rules ] in
    let turn : TakesTurn g.S.Sequential.steps c.if-not-draw_next.place.me c.if-not-draw_next.next c.await_turn.new.place.me = search rules in
    entered g.S.Sequential.steps c.args.place.now.me c.if-not-draw_next.place.me c.await_turn.new.place.me c.if-not-draw_next.next c.requires.idle.1 draws turn

pub returns-else-not-is_served-clause-enters : goal.returns-else-not-is_served-clause-enters
returns-else-not-is_served-clause-enters g c =
    let draws : Draws c.args.place.now.me c.if-not-draw_next.next c.if-not-draw_next.place.me = elim c.if-not-draw_next.branch [ then-not-draw_next w ↦ search rules | else-not-draw_next w ↦ search rules ] in
    let turn : TakesTurn g.S.Sequential.steps c.if-not-draw_next.place.me c.if-not-draw_next.next c.is_served.new.place.me = search rules in
    entered g.S.Sequential.steps c.args.place.now.me c.if-not-draw_next.place.me c.is_served.new.place.me c.if-not-draw_next.next c.requires.idle.1 draws turn
