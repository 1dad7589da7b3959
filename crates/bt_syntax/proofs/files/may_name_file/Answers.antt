use Rattle.std.proofs.Common.{sym, ◌∙◌}
use Rattle.console_operand.specs.Word.{words}
use Rattle.bt_syntax.proofs.BatchPath.{names_none}
use Rattle.bt_syntax.proofs.files.may_name_file.Goals as goal

pub returns-else-eq : goal.returns-else-eq
returns-else-eq c no_batch =
    names_none c.args.line.now c.in-Some.word.now (words c.in-Some.field-0-1.now) c.in-Some.ensures.words (rw c.as_slice.ensures at (sym c.eq.ensures ∙ c.if-eq.false))
    (rw c.as_slice-else-eq.ensures at (sym c.eq-else-eq.ensures ∙ no_batch))
