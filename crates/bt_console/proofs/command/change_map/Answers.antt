use Rattle.std.proofs.Common.{None, refl, sym, subst}
use Rattle.console_reference.specs.References.{map_named}
use Rattle.bt_console.specs.Commands.{change_at, changed_at, recorded_if, DoneUnlessRefused}
use Rattle.bt_console.proofs.Commanded.{done_found, done_lost}
use Rattle.bt_console.proofs.command.change_map.Goals as goal

pub returns-in-Ok : goal.returns-in-Ok
returns-in-Ok g c =
    let b = c.args.book.now.plain in
    done_found (λ book named. recorded_if book (change_at book named c.args.edit) None) b c.find_map.new.book.plain (map_named b c.args.map) c.in-Ok.map (c.edit_map.new.book.plain, c.edit_map.result)
    c.find_map.ensures.same c.in-Ok.ensures.found c.edit_map.ensures

pub returns-in-Err : goal.returns-in-Err
returns-in-Err g c =
    let b = c.args.book.now.plain in
    subst (λ answer. DoneUnlessRefused b (changed_at b c.args.map c.args.edit) (c.find_map.new.book.plain, answer)) (sym c.refused.ensures)
    (done_lost (λ book named. recorded_if book (change_at book named c.args.edit) None) b c.find_map.new.book.plain (map_named b c.args.map) c.in-Err.fault (λ why. refl)
    c.find_map.ensures.same c.in-Err.ensures.found)
