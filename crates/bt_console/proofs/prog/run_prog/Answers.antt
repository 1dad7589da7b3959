use Rattle.bt_syntax.specs.declared.prog.command.ProgCommand.TheVariants as p
use Rattle.bt_console.proofs.Commanded.{prog_of}
use Rattle.bt_console.proofs.prog.run_prog.Goals as goal

pub returns-in-Show : goal.returns-in-Show
returns-in-Show g c = prog_of c.args.book.now.plain c.args.command (p.Show c.in-Show.prog) (c.show.new.book.plain, c.show.result) c.in-Show.is tt c.show.ensures

pub returns-in-Dump : goal.returns-in-Dump
returns-in-Dump g c = prog_of c.args.book.now.plain c.args.command (p.Dump c.in-Dump.prog) (c.dump.new.book.plain, c.dump.result) c.in-Dump.is tt c.dump.ensures

pub returns-in-Pin : goal.returns-in-Pin
returns-in-Pin g c = prog_of c.args.book.now.plain c.args.command (p.Pin c.in-Pin.prog c.in-Pin.path) (c.pin.new.book.plain, c.pin.result) c.in-Pin.is tt c.pin.ensures
