use Rattle.std.proofs.Common.{None, Some, sym, subst}
use Rattle.journal_model.specs.Book.{recorded}
use Rattle.bt_console.specs.Commands.{changed, writing, DoneUnlessRefused}
use Rattle.bt_console.proofs.edit.write_item.Goals as goal

pub returns-in-None : goal.returns-in-None
returns-in-None g c =
    let b = c.args.book.now.plain in
    subst (λ key. DoneUnlessRefused b (changed (recorded b (writing c.args.map key c.args.flag c.args.item) None)) (c.push.new.book.plain, c.push.result)) (sym c.in-None.is) c.push.ensures

pub returns-in-Bytes : goal.returns-in-Bytes
returns-in-Bytes g c =
    let b = c.args.book.now.plain in
    subst (λ key. DoneUnlessRefused b (changed (recorded b (writing c.args.map key c.args.flag c.args.item) None)) (c.update.new.book.plain, c.update.result)) (sym c.in-Some.is)
    (subst (λ item. DoneUnlessRefused b (changed (recorded b (writing c.args.map (Some c.in-Some.key) c.args.flag item) None)) (c.update.new.book.plain, c.update.result)) (sym c.in-Bytes.is) c.update.ensures)

pub returns : goal.returns
returns g c =
    let b = c.args.book.now.plain in
    subst (λ key. DoneUnlessRefused b (changed (recorded b (writing c.args.map key c.args.flag c.args.item) None)) (c.link.new.book.plain, c.link.result)) (sym c.in-Some.is)
    (subst (λ item. DoneUnlessRefused b (changed (recorded b (writing c.args.map (Some c.in-Some.key) c.args.flag item) None)) (c.link.new.book.plain, c.link.result)) (sym c.in-Id.is) c.link.ensures)
