use Rattle.std.proofs.Common.{◌∙◌, ap, None, false, sym, subst, refl}
use Rattle.host_state.specs.declared.change.Change.TheVariants.{Unpin}
use Rattle.journal_model.specs.Book.{recorded}
use Rattle.console_answer.specs.declared.answer.Answer.TheVariants.{Refused}
use Rattle.console_answer.specs.declared.fault.Fault.TheVariants.{NestedBatch}
use Rattle.bt_console.specs.Frames.{console_of, on_book, frame_done, FrameEnds}
use Rattle.bt_console.specs.Commands.{CommandGoes, TakesNoMemory, LooksUp, command_done, changed, map_done, prog_done, net_done, journal_done, IsRightOn}
use Rattle.bt_console.proofs.Commanded.{command_of, goes_on_book}
use Rattle.bt_console.proofs.command.run_command.Goals as goal

pub returns-in-Map-clause-goes : goal.returns-in-Map-clause-goes
returns-in-Map-clause-goes g c plain blanks =
    let s = console_of c.args.book.now.plain c.args.runs.now in
    command_of s c.args.command _ plain (map_done s.book c.in-Map.command plain) (c.run_map.new.book.plain, c.run_map.result) c.in-Map.is tt tt refl refl (c.run_map.ensures.done plain blanks)

pub returns-in-Prog-clause-goes : goal.returns-in-Prog-clause-goes
returns-in-Prog-clause-goes g c plain blanks =
    let s = console_of c.args.book.now.plain c.args.runs.now in
    subst (λ it. CommandGoes s it plain (console_of c.run_prog.new.book.plain c.args.runs.now, c.run_prog.result)) (sym c.in-Prog.is)
    (goes_on_book s (λ course. IsRightOn s.book course.verdict c.in-Prog.command) (λ course. prog_done s.book course.verdict c.in-Prog.command) (c.run_prog.new.book.plain, c.run_prog.result) c.run_prog.ensures)

pub returns-in-Net-clause-goes : goal.returns-in-Net-clause-goes
returns-in-Net-clause-goes g c plain blanks =
    let s = console_of c.args.book.now.plain c.args.runs.now in
    command_of s c.args.command _ plain (net_done s.book c.in-Net.command) (c.run_net.new.book.plain, c.run_net.result) c.in-Net.is tt tt refl refl c.run_net.ensures

pub returns-in-Batch-clause-goes : goal.returns-in-Batch-clause-goes
returns-in-Batch-clause-goes g c plain blanks =
    let s = console_of c.args.book.now.plain c.args.runs.now in
    command_of s c.args.command _ plain (s.book, Refused NestedBatch) (s.book, Refused NestedBatch) c.in-Batch.is tt tt refl refl (false, refl)

pub returns-in-Unpin-clause-goes : goal.returns-in-Unpin-clause-goes
returns-in-Unpin-clause-goes g c plain blanks =
    let s = console_of c.args.book.now.plain c.args.runs.now in
    command_of s c.args.command _ plain (changed (recorded s.book (Unpin c.in-Unpin.path) None)) (c.record.new.book.plain, c.record.result) c.in-Unpin.is tt tt refl refl (c.record.ensures None tt)

pub returns-in-Frame-clause-goes : goal.returns-in-Frame-clause-goes
returns-in-Frame-clause-goes g c plain blanks =
    let s = console_of c.args.book.now.plain c.args.runs.now in
    rw (c.into_answer.ensures, c.frame.ensures.same)
    (subst (λ it. CommandGoes s it plain (console_of c.frame.new.book.plain c.args.runs.now, c.frame.result)) (sym c.in-Frame.is)
    (goes_on_book s (λ course. FrameEnds s.book course.wants c.in-Frame.frame) (λ course. frame_done s.book course.wants c.in-Frame.frame) (c.frame.new.book.plain, c.frame.result) c.frame.ensures.goes))

pub returns-in-Run-clause-goes : goal.returns-in-Run-clause-goes
returns-in-Run-clause-goes g c plain blanks =
    let s = console_of c.args.book.now.plain c.args.runs.now in
    subst (λ it. CommandGoes s it plain (console_of c.run_runs.new.book.plain c.run_runs.new.runs, c.run_runs.result)) (sym c.in-Run.is) c.run_runs.ensures

pub returns-clause-goes : goal.returns-clause-goes
returns-clause-goes g c plain blanks =
    let s = console_of c.args.book.now.plain c.args.runs.now in
    command_of s c.args.command _ plain (journal_done s.book c.in-Journal.command) (c.run_journal.new.book.plain, c.run_journal.result) c.in-Journal.is tt tt refl refl c.run_journal.ensures.done

pub returns-in-Map-clause-sure : goal.returns-in-Map-clause-sure
returns-in-Map-clause-sure g c none = absurd (subst TakesNoMemory c.in-Map.is none)

pub returns-in-Prog-clause-sure : goal.returns-in-Prog-clause-sure
returns-in-Prog-clause-sure g c none = absurd (subst TakesNoMemory c.in-Prog.is none)

pub returns-in-Net-clause-sure : goal.returns-in-Net-clause-sure
returns-in-Net-clause-sure g c none = absurd (subst TakesNoMemory c.in-Net.is none)

pub returns-in-Batch-clause-sure : goal.returns-in-Batch-clause-sure
returns-in-Batch-clause-sure g c none = absurd (subst TakesNoMemory c.in-Batch.is none)

pub returns-in-Unpin-clause-sure : goal.returns-in-Unpin-clause-sure
returns-in-Unpin-clause-sure g c none = absurd (subst TakesNoMemory c.in-Unpin.is none)

pub returns-in-Frame-clause-sure : goal.returns-in-Frame-clause-sure
returns-in-Frame-clause-sure g c none = absurd (subst TakesNoMemory c.in-Frame.is none)

pub returns-in-Run-clause-sure : goal.returns-in-Run-clause-sure
returns-in-Run-clause-sure g c none = absurd (subst TakesNoMemory c.in-Run.is none)

pub returns-clause-sure : goal.returns-clause-sure
returns-clause-sure g c none course =
    let s = console_of c.args.book.now.plain c.args.runs.now in
    ap (on_book s) (c.run_journal.ensures.sure (subst TakesNoMemory c.in-Journal.is none)) ∙ sym (ap (λ it. command_done s course it None) c.in-Journal.is)

pub returns-in-Prog-clause-looks_up : goal.returns-in-Prog-clause-looks_up
returns-in-Prog-clause-looks_up g c all one = absurd (subst LooksUp c.in-Prog.is one)

pub returns-in-Net-clause-looks_up : goal.returns-in-Net-clause-looks_up
returns-in-Net-clause-looks_up g c all one = absurd (subst LooksUp c.in-Net.is one)

pub returns-in-Batch-clause-looks_up : goal.returns-in-Batch-clause-looks_up
returns-in-Batch-clause-looks_up g c all one = absurd (subst LooksUp c.in-Batch.is one)

pub returns-in-Unpin-clause-looks_up : goal.returns-in-Unpin-clause-looks_up
returns-in-Unpin-clause-looks_up g c all one = absurd (subst LooksUp c.in-Unpin.is one)

pub returns-in-Frame-clause-looks_up : goal.returns-in-Frame-clause-looks_up
returns-in-Frame-clause-looks_up g c all one = absurd (subst LooksUp c.in-Frame.is one)

pub returns-in-Run-clause-looks_up : goal.returns-in-Run-clause-looks_up
returns-in-Run-clause-looks_up g c all one = absurd (subst LooksUp c.in-Run.is one)

pub returns-clause-looks_up : goal.returns-clause-looks_up
returns-clause-looks_up g c all one = absurd (subst LooksUp c.in-Journal.is one)

pub returns-in-Map-clause-looks_up : goal.returns-in-Map-clause-looks_up
returns-in-Map-clause-looks_up g c all one course =
    let s = console_of c.args.book.now.plain c.args.runs.now in
    ap (on_book s) (c.run_map.ensures.looks_up all (subst LooksUp c.in-Map.is one)) ∙ sym (ap (λ it. command_done s course it None) c.in-Map.is)
