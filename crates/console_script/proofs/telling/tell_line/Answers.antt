use Rattle.std.proofs.Common.{◌∙◌, refl, sym, ap, subst, length, IsNone, None, Some, Ok}
use Rattle.console_operand.specs.Word.{words}
use Rattle.console_answer.specs.declared.answer.Answer.TheVariants.{Refused}
use Rattle.console_answer.specs.declared.fault.Fault.TheVariants as fault
use Rattle.bt_console.specs.Frames.{console_of}
use Rattle.bt_console.specs.Lines.{unread_answer}
use Rattle.bt_console.specs.Supply.{CommandRuns}
use Rattle.bt_syntax.specs.declared.fault.SyntaxFault.TheVariants.{TooLong, At}
use Rattle.console_text.proofs.Writing.{Appends-nil}
use Rattle.console_script.proofs.Lengths.{not_long, read_short}
use Rattle.console_script.proofs.ReadLines.{none_read, line_of_command, line_of_nothing, line_of_fault, line_unread}
use Rattle.console_script.proofs.telling.tell_line.Goals as goal

pub returns-in-Ok-clause-tells : goal.returns-in-Ok-clause-tells
returns-in-Ok-clause-tells g c =
    let line = c.args.line.now in
    let s = console_of c.args.book.now.plain c.args.runs.now in
    let then_c = console_of c.tell_command.new.book.plain c.tell_command.new.runs in
    let it = c.tell_command.ensures.tells in
    record {
      answer = Some it.answer;
      right = line_of_command g.S.Supply.gives g.K.MapKind.seen s c.args.supply.now c.tell_command.new.supply c.args.files.now line c.in-Ok-Some.command
          (then_c, it.answer) (read_short c.in-Ok-Some.field-0 (length line) c.in-Ok-Some.ensures.too_long.1)
          (λ e. none_read c.in-Ok-Some.command (subst IsNone c.in-Ok-Some.field-0-is (c.in-Ok-Some.ensures.empty.1 e))) (sym c.in-Ok-Some.ensures.exact ∙ ap Ok c.in-Ok-Some.field-0-is)
          (subst (λ it_is. CommandRuns g.S.Supply.gives g.K.MapKind.seen s c.args.supply.now it_is (then_c, it.answer) c.tell_command.new.supply) c.in-Ok.ensures it.right);
      wrote = it.wrote;
      tells = it.tells;
    }

pub returns-in-Err-clause-tells : goal.returns-in-Err-clause-tells
returns-in-Err-clause-tells g c =
    let line = c.args.line.now in
    let s = console_of c.args.book.now.plain c.args.runs.now in
    record {
      answer = unread_answer (words line);
      right = line_unread g.S.Supply.gives g.K.MapKind.seen s c.args.supply.now c.args.supply.now c.args.files.now line (read_short c.in-Ok-Some.field-0 (length line) c.in-Ok-Some.ensures.too_long.1);
      wrote = c.tell_unread.ensures.wrote;
      tells = c.tell_unread.ensures.told;
    }

pub returns-in-Ok-None-clause-tells : goal.returns-in-Ok-None-clause-tells
returns-in-Ok-None-clause-tells g c =
    record {
      answer = None;
      right = line_of_nothing g.S.Supply.gives g.K.MapKind.seen (console_of c.args.book.now.plain c.args.runs.now) c.args.supply.now c.args.supply.now c.args.files.now c.args.line.now (sym c.in-Ok-None.ensures.exact ∙ ap Ok c.in-Ok-None.field-0-is);
      wrote = Appends-nil (g.W.Output.contents c.args.out.now);
      tells = refl;
    }

pub returns-in-Err-NoMemory-clause-tells : goal.returns-in-Err-NoMemory-clause-tells
returns-in-Err-NoMemory-clause-tells g c =
    let line = c.args.line.now in
    let s = console_of c.args.book.now.plain c.args.runs.now in
    record {
      answer = unread_answer (words line);
      right = line_unread g.S.Supply.gives g.K.MapKind.seen s c.args.supply.now c.args.supply.now c.args.files.now line (not_long c.in-Err-NoMemory.field-0 (length line) c.in-Err-NoMemory.ensures.too_long.1 (λ e. cc (e, c.in-Err-NoMemory.field-0-is)));
      wrote = c.tell_unread-in-Err-NoMemory.ensures.wrote;
      tells = c.tell_unread-in-Err-NoMemory.ensures.told;
    }

pub returns-in-Err-TooLong-clause-tells : goal.returns-in-Err-TooLong-clause-tells
returns-in-Err-TooLong-clause-tells g c =
    record {
      answer = Some (Refused fault.TooLong);
      right = line_of_fault g.S.Supply.gives g.K.MapKind.seen (console_of c.args.book.now.plain c.args.runs.now) c.args.supply.now c.args.supply.now c.args.files.now c.args.line.now TooLong (rw c.in-Err-TooLong.field-0-is at c.in-Err-TooLong.ensures.exact);
      wrote = c.tell_refused.ensures.wrote;
      tells = c.tell_refused.ensures.told;
    }

pub returns-in-Err-At-clause-tells : goal.returns-in-Err-At-clause-tells
returns-in-Err-At-clause-tells g c =
    record {
      answer = Some (Refused (fault.Syntax c.in-Err-At.word));
      right = line_of_fault g.S.Supply.gives g.K.MapKind.seen (console_of c.args.book.now.plain c.args.runs.now) c.args.supply.now c.args.supply.now c.args.files.now c.args.line.now (At c.in-Err-At.word) (rw c.in-Err-At.field-0-is at c.in-Err-At.ensures.exact);
      wrote = rw (sym c.in-Err-At.word-is) c.tell_refused-in-Err-At.ensures.wrote;
      tells = rw (sym c.in-Err-At.word-is) c.tell_refused-in-Err-At.ensures.told;
    }
