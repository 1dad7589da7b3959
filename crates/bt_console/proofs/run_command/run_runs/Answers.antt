use Rattle.bt_console.specs.Frames.{console_of}
use Rattle.bt_console.proofs.Opened.{a_start}
use Rattle.bt_console.proofs.run_command.run_runs.Goals as goal

pub returns-in-Start : goal.returns-in-Start
returns-in-Start g c =
    a_start (console_of c.args.book.now.plain c.args.runs.now) c.in-Start.frame c.args.command (console_of c.start.new.book.plain c.start.new.runs, c.start.result) c.in-Start.is c.start.ensures
