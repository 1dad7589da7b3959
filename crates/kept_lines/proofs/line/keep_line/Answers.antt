use Rattle.console_script.specs.Frames.{console_of}
use Rattle.kept_lines.proofs.Noted.{noted_line}
use Rattle.kept_lines.proofs.line.keep_line.Goals as goal

pub returns-in_ok-note-in-Ok-clause-notes : goal.returns-in_ok-note-in-Ok-clause-notes
returns-in_ok-note-in-Ok-clause-notes g c =
    let it = c.in-Ok.ensures.tells in
    let noted = c.in_ok-note-in-Ok.ensures in (
      noted.0,
      noted.1,
      noted_line c.args.files.now (console_of c.args.book.now.plain c.args.runs.now) (console_of c.tell_line.new.book.plain c.tell_line.new.runs) it.right.course it.right.blank c.args.line.now it.answer
          c.in_ok-asked.asked c.in-Ok.told c.last_serial-since.result noted.0 c.is_well.ensures it.right.is c.in_ok-asked.ensures it.tells c.last_serial-since.ensures noted.2,
    )
