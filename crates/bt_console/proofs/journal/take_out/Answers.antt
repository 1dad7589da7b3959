use Rattle.std.proofs.Common.{ℕ, Result, sym, subst}
use Rattle.journal_model.specs.declared.faults.WithoutFault.{WithoutFault}
use Rattle.journal_model.specs.declared.faults.WithoutFault.TheVariants.{NoMemory}
use Rattle.journal_model.specs.Book.{OrNoMemory}
use Rattle.journal_model.specs.Without.{taken_out}
use Rattle.bt_syntax.specs.declared.journal.JournalCommand.TheVariants.{Without}
use Rattle.bt_console.specs.Commands.{journal_done, DoneUnlessRefused}
use Rattle.bt_console.proofs.Commanded.{taken_out_or_not}
use Rattle.bt_console.proofs.journal.take_out.Goals as goal

pub returns : goal.returns
returns g c =
    let b = c.args.book.now.plain in
    let after = c.without.new.book.plain in
    subst (λ answer. DoneUnlessRefused b (journal_done b (Without c.args.serial)) (after, answer)) (sym c.of_taking_out.ensures)
    (taken_out_or_not b after c.args.serial c.serial_of.result
    (subst (λ (told : Result ℕ WithoutFault). OrNoMemory b NoMemory (taken_out b c.args.serial) (after, told)) (sym c.serial_of.ensures) c.without.ensures.taken.0))
