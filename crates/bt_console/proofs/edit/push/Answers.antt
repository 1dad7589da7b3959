use Rattle.std.proofs.Common.{None, subst}
use Rattle.bt_mapkind.specs.declared.request.MapOp.TheVariants.{Push}
use Rattle.journal_model.specs.Book.{recorded}
use Rattle.bt_console.specs.Commands.{changed, operation, flag_number, DoneUnlessRefused}
use Rattle.bt_console.proofs.edit.push.Goals as goal

pub returns : goal.returns
returns g c =
    let b = c.args.book.now.plain in
    subst (λ value. DoneUnlessRefused b (changed (recorded b (operation c.args.map (Push value (flag_number c.args.flag))) None)) (c.operate.new.book.plain, c.operate.result)) c.pushed-value.ensures
    (subst (λ it. DoneUnlessRefused b (changed (recorded b (operation c.args.map (Push c.pushed-value.result it)) None)) (c.operate.new.book.plain, c.operate.result)) c.flag_number-flag.ensures c.operate.ensures)
