use Rattle.std.proofs.Common.{◌≤◌, length, ◌∙◌, sym, arith}
use Rattle.console_operand.specs.Word.{words}
use Rattle.bt_syntax.proofs.NeedsRead.{need_create, need_other}
use Rattle.bt_syntax.proofs.script.need_of.Goals as goal

pub returns-in_err-behind_map_create : goal.returns-in_err-behind_map_create
returns-in_err-behind_map_create c =
    let limit : length c.args.line.now ≤ 131072 = omega (arith, c.if-line-gt-LINE_MAX.false) in
    c.from_residual.ensures ∙ sym (need_other c.args.line.now limit c.in_err-behind_map_create.ensures)

pub returns : goal.returns
returns c =
    let limit : length c.args.line.now ≤ 131072 = omega (arith, c.if-line-gt-LINE_MAX.false) in
    c.attr_behind_create.ensures ∙ sym (need_create c.args.line.now (words c.in_ok-behind_map_create.field-0.now) limit c.in_ok-behind_map_create.ensures)
