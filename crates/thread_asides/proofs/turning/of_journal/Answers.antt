use Rattle.console_looks.specs.Turned.{undone_by}
use Rattle.thread_asides.proofs.TurnsSo.{is_back, is_out}
use Rattle.thread_asides.proofs.turning.of_journal.Goals as goal

pub returns-in-Undo : goal.returns-in-Undo
returns-in-Undo g c = rw (c.in-Undo.is, c.back.ensures) (is_back (undone_by c.in-Undo.mark c.args.book.now.plain) c.args.book.now.plain c.taken_back.result c.taken_back.ensures)

pub returns-in-Without : goal.returns-in-Without
returns-in-Without g c = rw (c.in-Without.is, c.out.ensures) (is_out _ c.taken_out.result c.taken_out.ensures)
