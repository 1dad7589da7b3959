use Rattle.std.proofs.Common.{None, refl}
use Rattle.console_reference.specs.References.{prog_named}
use Rattle.bt_console.specs.Commands.{attaching}
use Rattle.bt_console.proofs.Commanded.{told_of, recorded_found}
use Rattle.bt_console.proofs.net.attach.Goals as goal

pub returns : goal.returns
returns g c =
    let named = prog_named c.args.book.now.plain c.args.prog in
    let attached = attaching c.args.device c.args.overwrite in
    recorded_found c.args.book.now.plain c.find_prog-prog.new.book.plain (attached named) c.attaching.result None (c.record_if.new.book.plain, c.record_if.result) c.find_prog-prog.ensures.same
    (told_of attached named c.find_prog-prog.result c.attaching.result refl c.attaching.ensures c.find_prog-prog.ensures.found) (c.record_if.ensures None tt)
