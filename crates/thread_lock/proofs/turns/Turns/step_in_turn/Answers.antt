use Rattle.std.proofs.Common.{rules, length, sym, ap, ◌∙◌, length-append}
use Rattle.thread_lock.specs.Plays.{Draws, TakesTurn}
use Rattle.thread_lock.proofs.Calling.{entered, slot_entered, has_worked, stepped}
use Rattle.thread_lock.proofs.turns.Turns.step_in_turn.Goals.{then-not-draw_next, else-not-draw_next, then-not-is_served, else-not-is_served}
use Rattle.thread_lock.proofs.turns.Turns.step_in_turn.Goals as goal

pub work-answer-requires-clause-holds : goal.work-answer-requires-clause-holds
work-answer-requires-clause-holds g c =
    let draws : Draws c.args.place.now.me c.if-not-draw_next.next c.if-not-draw_next.place.me = elim c.if-not-draw_next.branch [ then-not-draw_next w ↦ search rules | else-not-draw_next w ↦ search rules ] in
    let turn : TakesTurn g.S.Sequential.steps c.if-not-draw_next.place.me c.if-not-draw_next.next c.if-not-is_served.place.me = elim c.if-not-is_served.branch [ then-not-is_served w ↦ search rules | else-not-is_served w ↦ search rules ] in
    slot_entered g.S.Sequential.steps _ _ (entered g.S.Sequential.steps c.args.place.now.me c.if-not-draw_next.place.me c.if-not-is_served.place.me c.if-not-draw_next.next c.requires.idle.1 draws turn)

pub leave-requires-clause-worked : goal.leave-requires-clause-worked
leave-requires-clause-worked g c =
    let draws : Draws c.args.place.now.me c.if-not-draw_next.next c.if-not-draw_next.place.me = elim c.if-not-draw_next.branch [ then-not-draw_next w ↦ search rules | else-not-draw_next w ↦ search rules ] in
    let turn : TakesTurn g.S.Sequential.steps c.if-not-draw_next.place.me c.if-not-draw_next.next c.if-not-is_served.place.me = elim c.if-not-is_served.branch [ then-not-is_served w ↦ search rules | else-not-is_served w ↦ search rules ] in
    has_worked g.S.Sequential.steps c.args.place.now.me.0 c.if-not-is_served.place.me c.work-answer.new.place.me c.args.event c.work-answer.result (entered g.S.Sequential.steps c.args.place.now.me c.if-not-draw_next.place.me c.if-not-is_served.place.me c.if-not-draw_next.next c.requires.idle.1 draws turn) c.work-answer.ensures.works _ c.requires.opened

pub returns-clause-empty : goal.returns-clause-empty
returns-clause-empty g c =
    let draws : Draws c.args.place.now.me c.if-not-draw_next.next c.if-not-draw_next.place.me = elim c.if-not-draw_next.branch [ then-not-draw_next w ↦ search rules | else-not-draw_next w ↦ search rules ] in
    let turn : TakesTurn g.S.Sequential.steps c.if-not-draw_next.place.me c.if-not-draw_next.next c.if-not-is_served.place.me = elim c.if-not-is_served.branch [ then-not-is_served w ↦ search rules | else-not-is_served w ↦ search rules ] in
    (stepped g.S.Sequential.steps c.args.place.now.me.0 c.if-not-is_served.place.me c.work-answer.new.place.me c.args.event c.work-answer.result (entered g.S.Sequential.steps c.args.place.now.me c.if-not-draw_next.place.me c.if-not-is_served.place.me c.if-not-draw_next.next c.requires.idle.1 draws turn) c.work-answer.ensures.works _ c.leave.ensures.serves).0

pub returns-clause-steps : goal.returns-clause-steps
returns-clause-steps g c =
    let draws : Draws c.args.place.now.me c.if-not-draw_next.next c.if-not-draw_next.place.me = elim c.if-not-draw_next.branch [ then-not-draw_next w ↦ search rules | else-not-draw_next w ↦ search rules ] in
    let turn : TakesTurn g.S.Sequential.steps c.if-not-draw_next.place.me c.if-not-draw_next.next c.if-not-is_served.place.me = elim c.if-not-is_served.branch [ then-not-is_served w ↦ search rules | else-not-is_served w ↦ search rules ] in
    (stepped g.S.Sequential.steps c.args.place.now.me.0 c.if-not-is_served.place.me c.work-answer.new.place.me c.args.event c.work-answer.result (entered g.S.Sequential.steps c.args.place.now.me c.if-not-draw_next.place.me c.if-not-is_served.place.me c.if-not-draw_next.next c.requires.idle.1 draws turn) c.work-answer.ensures.works _ c.leave.ensures.serves).1

pub returns-clause-place : goal.returns-clause-place
returns-clause-place g c =
    let draws : Draws c.args.place.now.me c.if-not-draw_next.next c.if-not-draw_next.place.me = elim c.if-not-draw_next.branch [ then-not-draw_next w ↦ search rules | else-not-draw_next w ↦ search rules ] in
    let turn : TakesTurn g.S.Sequential.steps c.if-not-draw_next.place.me c.if-not-draw_next.next c.if-not-is_served.place.me = elim c.if-not-is_served.branch [ then-not-is_served w ↦ search rules | else-not-is_served w ↦ search rules ] in
    let worked = has_worked g.S.Sequential.steps c.args.place.now.me.0 c.if-not-is_served.place.me c.work-answer.new.place.me c.args.event c.work-answer.result (entered g.S.Sequential.steps c.args.place.now.me c.if-not-draw_next.place.me c.if-not-is_served.place.me c.if-not-draw_next.next c.requires.idle.1 draws turn) c.work-answer.ensures.works _ c.requires.opened in
    let after = c.leave.ensures.serves worked.kept worked.call worked.held worked.noted in
    c.leave.ensures.place ∙ sym (ap (λ m. length m.0.seen) after ∙ length-append c.work-answer.new.place.me.0.seen _)
