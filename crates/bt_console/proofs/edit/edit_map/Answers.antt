use Rattle.std.proofs.Common.{sym, subst}
use Rattle.bt_console.specs.Commands.{edited, DoneUnlessRefused}
use Rattle.bt_console.proofs.edit.edit_map.Goals as goal

pub returns-in-Write : goal.returns-in-Write
returns-in-Write g c =
    let b = c.args.book.now.plain in
    subst (λ it. DoneUnlessRefused b (edited b c.args.map it) (c.write.new.book.plain, c.write.result)) (sym c.in-Write.is) c.write.ensures

pub returns-in-Delete : goal.returns-in-Delete
returns-in-Delete g c =
    let b = c.args.book.now.plain in
    subst (λ it. DoneUnlessRefused b (edited b c.args.map it) (c.delete.new.book.plain, c.delete.result)) (sym c.in-Delete.is) c.delete.ensures

pub returns-in-Pop : goal.returns-in-Pop
returns-in-Pop g c =
    let b = c.args.book.now.plain in
    subst (λ it. DoneUnlessRefused b (edited b c.args.map it) (c.pop.new.book.plain, c.pop.result)) (sym c.in-Pop.is) c.pop.ensures

pub returns-in-Freeze : goal.returns-in-Freeze
returns-in-Freeze g c =
    let b = c.args.book.now.plain in
    subst (λ it. DoneUnlessRefused b (edited b c.args.map it) (c.freeze.new.book.plain, c.freeze.result)) (sym c.in-Freeze.is) c.freeze.ensures

pub returns-in-Pin : goal.returns-in-Pin
returns-in-Pin g c =
    let b = c.args.book.now.plain in
    subst (λ it. DoneUnlessRefused b (edited b c.args.map it) (c.pin.new.book.plain, c.pin.result)) (sym c.in-Pin.is) c.pin.ensures
