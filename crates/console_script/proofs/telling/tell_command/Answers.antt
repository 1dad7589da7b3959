use Rattle.std.proofs.Common.{subst}
use Rattle.bt_console.specs.Frames.{console_of}
use Rattle.bt_console.specs.Supply.{CommandRuns}
use Rattle.console_script.specs.Telling.{TellsAnswer}
use Rattle.bt_console.proofs.Supplying.{ran_without}
use Rattle.console_script.proofs.Editing.{edit_makes_none, edit_goes}
use Rattle.console_script.proofs.telling.tell_command.Goals as goal

pub returns-in-Ok-clause-tells : goal.returns-in-Ok-clause-tells
returns-in-Ok-clause-tells g c =
    let s = console_of c.args.book.now.plain c.args.runs.now in
    record {
      answer = c.change_map-answer.result;
      right = ran_without g.S.Supply.gives g.K.MapKind.seen s c.args.supply.now c.args.supply.now c.args.command (console_of c.change_map-answer.new.book.plain c.args.runs.now, c.change_map-answer.result)
          (edit_makes_none c.args.command (c.in-Ok.map, c.in-Ok.edit) c.in-Ok.ensures)
          (λ plain a. edit_goes s c.args.command (c.in-Ok.map, c.in-Ok.edit) (c.change_map-answer.new.book.plain, c.change_map-answer.result) plain c.in-Ok.ensures c.change_map-answer.ensures);
      wrote = c.tell_short.ensures.wrote;
      tells = c.tell_short.ensures.told;
    }

pub returns-in-Err-clause-tells : goal.returns-in-Err-clause-tells
returns-in-Err-clause-tells g c =
    let s = console_of c.args.book.now.plain c.args.runs.now in
    let then_c = console_of c.tell_other.new.book.plain c.tell_other.new.runs in
    subst (λ it. TellsAnswer (λ answer. CommandRuns g.S.Supply.gives g.K.MapKind.seen s c.args.supply.now it (then_c, answer) c.tell_other.new.supply)
    (g.W.Output.contents c.args.out.now) (g.W.Output.contents c.tell_other.new.out) c.tell_other.result) c.in-Err.ensures c.tell_other.ensures.tells
