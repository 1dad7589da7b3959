use Rattle.std.proofs.Common.{refl, sym, subst, Option, Ok, Err}
use Rattle.std.specs.Prelude.{IfOk}
use Rattle.bt_desk.proofs.Visiting.{if_ok}
use Rattle.bt_syntax.specs.declared.fault.SyntaxFault.TheVariants.{At}
use Rattle.console_live_words.specs.declared.command.LiveCommand.{LiveCommand}
use Rattle.console_answer.specs.declared.fault.Fault.TheVariants.{Syntax}
use Rattle.thread_live.specs.Footings.{footing, RefusesBy}
use Rattle.thread_live.specs.Lines.{Heeds}
use Rattle.thread_live.proofs.Going.{goes_by}
use Rattle.thread_live.proofs.line.answer.Goals as goal

-- a command that only a live host has
pub returns-in-Some-clause-goes : goal.returns-in-Some-clause-goes
returns-in-Some-clause-goes g c =
    let from = footing c.args.operator.now.session c.args.seat.now (g.W.Output.contents c.args.out.now) in
    let to = footing c.answer_command.new.operator.session c.answer_command.new.seat (g.W.Output.contents c.answer_command.new.out) in
    goes_by g.S.Supply.gives g.K.MapKind.seen c.args.files.now c.args.desk.now c.args.traffic.now c.args.operator.now.most_moments c.args.line.now c.args.operator.now.summary from to c.answer_command.result
    (Ok c.in-Ok.found) c.in-Ok.ensures.exact
    (subst (λ (found : Option LiveCommand). IfOk c.answer_command.result (λ tally. Heeds g.S.Supply.gives g.K.MapKind.seen c.args.files.now c.args.desk.now c.args.traffic.now c.args.operator.now.most_moments c.args.line.now found c.args.operator.now.summary from to tally))
    (sym c.in-Some.is) c.answer_command.ensures.heeds)

-- a line of a script
pub returns-in-None-clause-goes : goal.returns-in-None-clause-goes
returns-in-None-clause-goes g c =
    let from = footing c.args.operator.now.session c.args.seat.now (g.W.Output.contents c.args.out.now) in
    let to = footing c.answer_script.new.operator.session c.answer_script.new.seat (g.W.Output.contents c.answer_script.new.out) in
    goes_by g.S.Supply.gives g.K.MapKind.seen c.args.files.now c.args.desk.now c.args.traffic.now c.args.operator.now.most_moments c.args.line.now c.args.operator.now.summary from to c.answer_script.result
    (Ok c.in-Ok.found) c.in-Ok.ensures.exact
    (subst (λ (found : Option LiveCommand). IfOk c.answer_script.result (λ tally. Heeds g.S.Supply.gives g.K.MapKind.seen c.args.files.now c.args.desk.now c.args.traffic.now c.args.operator.now.most_moments c.args.line.now found c.args.operator.now.summary from to tally))
    (sym c.in-None.is) c.answer_script.ensures.goes)

-- no line at all
pub returns-in-Err-At-clause-goes : goal.returns-in-Err-At-clause-goes
returns-in-Err-At-clause-goes g c =
    let from = footing c.args.operator.now.session c.args.seat.now (g.W.Output.contents c.args.out.now) in
    let to = footing c.args.operator.now.session c.args.seat.now (g.W.Output.contents c.refuse.new.out) in
    goes_by g.S.Supply.gives g.K.MapKind.seen c.args.files.now c.args.desk.now c.args.traffic.now c.args.operator.now.most_moments c.args.line.now c.args.operator.now.summary from to c.refuse.result
    (Err (At c.in-Err-At.word)) (rw c.in-Err-At.field-0-is at c.in-Err-At.ensures.exact)
    (if_ok _ _ c.refuse.result (λ tally it. record { session = refl; seat = refl; refuses = it })
    (subst (λ word. IfOk c.refuse.result (λ tally. RefusesBy (g.W.Output.contents c.args.out.now) (g.W.Output.contents c.refuse.new.out) (Syntax word) c.args.operator.now.summary tally)) c.in-Err-At.word-is c.refuse.ensures.refuses))
