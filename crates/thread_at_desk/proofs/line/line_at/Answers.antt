use Rattle.std.proofs.Common.{refl, ap, subst, None, Some, Ok, Err}
use Rattle.console_answer.specs.declared.answer.Answer.TheVariants.{Refused}
use Rattle.bt_desk.proofs.Visiting.{if_ok}
use Rattle.console_text.proofs.Writing.{Appends-nil}
use Rattle.thread_at_desk.specs.Lines.{ReadsAs}
use Rattle.thread_at_desk.proofs.line.line_at.Goals as goal

pub returns-in-Ok-Some-clause-tells : goal.returns-in-Ok-Some-clause-tells
returns-in-Ok-Some-clause-tells g c =
    if_ok _ _ c.tell_command.result
    (λ told it. record {
      answer = Some it.answer;
      right = (Ok (Some c.in-Ok-Some.command), subst (ReadsAs c.args.files.now c.args.line.now) (ap Ok c.in-Ok-Some.field-0-is) c.in-Ok-Some.ensures, (it.answer, refl, it.right));
      wrote = it.wrote;
      tells = it.tells;
    })
    c.tell_command.ensures.tells

pub returns-in-Ok-None-clause-tells : goal.returns-in-Ok-None-clause-tells
returns-in-Ok-None-clause-tells g c =
    record {
      answer = None;
      right = (Ok None, subst (ReadsAs c.args.files.now c.args.line.now) (ap Ok c.in-Ok-None.field-0-is) c.in-Ok-None.ensures, (refl, refl, refl));
      wrote = Appends-nil (g.W.Output.contents c.args.out.now);
      tells = refl;
    }

pub returns-in-Err-clause-tells : goal.returns-in-Err-clause-tells
returns-in-Err-clause-tells g c =
    record {
      answer = Some (Refused c.in-Err.fault);
      right = (Err c.in-Err.fault, c.in-Err.ensures, (refl, refl, refl));
      wrote = c.tell_refused.ensures.wrote;
      tells = c.tell_refused.ensures.told;
    }
