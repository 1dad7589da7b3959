use Rattle.std.proofs.Common.{ap, sym, subst}
use Rattle.bt_syntax.specs.Needs.{made_by}
use Rattle.bt_console.specs.Commands.{CommandGoes}
use Rattle.bt_console.specs.Frames.{console_of, frame_done, FrameEnds}
use Rattle.bt_console.proofs.Commanded.{goes_on_book}
use Rattle.bt_console.proofs.Supplying.{ran_without}
use Rattle.console_script.proofs.telling.tell_other.Goals as goal

pub returns-in-Frame-clause-tells : goal.returns-in-Frame-clause-tells
returns-in-Frame-clause-tells g c =
    let s = console_of c.args.book.now.plain c.args.runs.now in
    record {
      answer = c.frame-answer.result;
      right = rw c.frame-answer.ensures.same
          (ran_without g.S.Supply.gives g.K.MapKind.seen s c.args.supply.now c.args.supply.now c.args.command (console_of c.frame-answer.new.book.plain c.args.runs.now, c.frame-answer.result)
          (ap made_by c.in-Frame.is)
          (λ plain a. subst (λ it. CommandGoes s it plain (console_of c.frame-answer.new.book.plain c.args.runs.now, c.frame-answer.result)) (sym c.in-Frame.is)
          (goes_on_book s (λ course. FrameEnds s.book course.wants c.in-Frame.frame) (λ course. frame_done s.book course.wants c.in-Frame.frame) (c.frame-answer.new.book.plain, c.frame-answer.result) c.frame-answer.ensures.goes)));
      wrote = c.tell_short.ensures.wrote;
      tells = c.tell_short.ensures.told;
    }
