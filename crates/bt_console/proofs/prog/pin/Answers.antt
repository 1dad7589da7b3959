use Rattle.std.proofs.Common.{None, refl}
use Rattle.console_reference.specs.References.{prog_named}
use Rattle.bt_console.specs.Commands.{pinning}
use Rattle.bt_console.proofs.Commanded.{told_of, recorded_found}
use Rattle.bt_console.proofs.prog.pin.Goals as goal

pub returns : goal.returns
returns g c =
    let named = prog_named c.args.book.now.plain c.args.prog in
    let pinned = pinning c.args.path in
    recorded_found c.args.book.now.plain c.find_prog-prog.new.book.plain (pinned named) c.pinning.result None (c.record_if.new.book.plain, c.record_if.result) c.find_prog-prog.ensures.same
    (told_of pinned named c.find_prog-prog.result c.pinning.result refl c.pinning.ensures c.find_prog-prog.ensures.found) (c.record_if.ensures None tt)
