use Rattle.std.proofs.Common.{None, subst}
use Rattle.bt_mapkind.specs.declared.request.MapOp.TheVariants.{Delete}
use Rattle.journal_model.specs.Book.{recorded}
use Rattle.bt_console.specs.Commands.{changed, operation, DoneUnlessRefused}
use Rattle.bt_console.proofs.edit.delete.Goals as goal

pub returns : goal.returns
returns g c =
    let b = c.args.book.now.plain in
    subst (λ key. DoneUnlessRefused b (changed (recorded b (operation c.args.map (Delete key)) None)) (c.operate.new.book.plain, c.operate.result)) c.bytes-key.ensures c.operate.ensures
