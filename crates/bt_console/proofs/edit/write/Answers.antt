use Rattle.std.proofs.Common.{None, refl, sym, subst}
use Rattle.console_reference.specs.References.{item_named}
use Rattle.bt_console.specs.Commands.{written, recorded_if, DoneUnlessRefused}
use Rattle.bt_console.proofs.Commanded.{done_found, done_lost}
use Rattle.bt_console.proofs.edit.write.Goals as goal

pub returns-in-Ok : goal.returns-in-Ok
returns-in-Ok g c =
    let b = c.args.book.now.plain in
    done_found (λ book named. recorded_if book (written c.args.map.id c.args.key c.args.flag named) None) b c.find_item.new.book.plain (item_named b c.args.map.kind c.args.value) c.in-Ok.item (c.write_item.new.book.plain, c.write_item.result)
    c.find_item.ensures.same c.in-Ok.ensures.found c.write_item.ensures

pub returns-in-Err : goal.returns-in-Err
returns-in-Err g c =
    let b = c.args.book.now.plain in
    subst (λ answer. DoneUnlessRefused b (recorded_if b (written c.args.map.id c.args.key c.args.flag (item_named b c.args.map.kind c.args.value)) None) (c.find_item.new.book.plain, answer)) (sym c.refused.ensures)
    (done_lost (λ book named. recorded_if book (written c.args.map.id c.args.key c.args.flag named) None) b c.find_item.new.book.plain (item_named b c.args.map.kind c.args.value) c.in-Err.fault (λ why. refl)
    c.find_item.ensures.same c.in-Err.ensures.found)
