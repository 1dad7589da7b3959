use Rattle.std.proofs.Common.{◌∙◌, refl, sym, ap, inr, length, Some, Ok}
use Rattle.bt_syntax.specs.declared.fault.SyntaxFault.TheVariants.{TooLong, At}
use Rattle.console_answer.specs.declared.fault.Fault.TheVariants.{Syntax}
use Rattle.console_script.specs.Lines.{with_files}
use Rattle.thread_at_desk.proofs.Reading.{reads_none, not_too_long}
use Rattle.thread_at_desk.proofs.line.read_line.Goals as goal

pub returns-in-Ok : goal.returns-in-Ok
returns-in-Ok c = ap (with_files c.args.files.now) (sym c.in-Ok-Some.ensures.exact ∙ ap Ok c.in-Ok-Some.field-0-is) ∙ ap (λ it. Ok (Some it)) (sym c.in-Ok.ensures)

pub returns-in-Ok-None : goal.returns-in-Ok-None
returns-in-Ok-None c = ap (with_files c.args.files.now) (sym c.in-Ok-None.ensures.exact ∙ ap Ok c.in-Ok-None.field-0-is)

pub returns-in-Err-TooLong : goal.returns-in-Err-TooLong
returns-in-Err-TooLong c = inr (TooLong, sym (rw c.in-Err-TooLong.field-0-is at c.in-Err-TooLong.ensures.exact), refl)

pub returns-in-Err-At : goal.returns-in-Err-At
returns-in-Err-At c = inr (At c.in-Err-At.word, sym (rw c.in-Err-At.field-0-is at c.in-Err-At.ensures.exact), ap Syntax c.in-Err-At.word-is)

pub returns-in-Err-NoMemory : goal.returns-in-Err-NoMemory
returns-in-Err-NoMemory c =
    reads_none c.args.files.now c.args.line.now c.unread.result (not_too_long c.in-Err-NoMemory.field-0 (length c.args.line.now) c.in-Err-NoMemory.ensures.too_long.1 c.in-Err-NoMemory.field-0-is) c.unread.ensures.none c.unread.ensures.wanted
