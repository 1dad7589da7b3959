-- What a line would turn, by what was looked at.
use Rattle.std.proofs.Common.{◌≡◌, ℕ, Option, Some, None, Result, Ok, Err, sym, subst}
use Rattle.std.specs.Prelude.{IfOk, IfSome}
use Rattle.std.specs.declared.alloc.AllocError.{AllocError}
use Rattle.journal_model.specs.Book.{PlainBook}
use Rattle.journal_model.specs.declared.listed.ChangeRow.{ChangeRow}
use Rattle.bt_syntax.specs.declared.command.Command.{Command}
use Rattle.bt_syntax.specs.declared.command.Command.TheVariants.{Journal}
use Rattle.bt_syntax.specs.declared.fault.SyntaxFault.{SyntaxFault}
use Rattle.bt_syntax.specs.declared.journal.JournalCommand.TheVariants.{Without}
use Rattle.console_looks.specs.Turned.{TakesBack}
use Rattle.console_looks.specs.declared.turned.Turned.{Turned}
use Rattle.thread_asides.specs.declared.turning.Turning.{Turning}
use Rattle.thread_asides.specs.declared.turning.Turning.TheVariants.{Nothing, Back, Forth, Out, Unknown}
use Rattle.thread_asides.specs.Turnings.{back_of, out_of, IsBack, IsOut, TurnsSo, Turns}

pub is_back : (count : Option ℕ) (b : PlainBook) (r : Result (Option Turned) AllocError) → IfOk r (TakesBack count b) → IsBack count b (back_of r)
is_back count b (Ok (Some it)) takes = takes
is_back count b (Ok None) takes = takes
is_back count b (Err no_memory) takes = tt

pub is_out : (found : Option ChangeRow) (r : Result (Option ChangeRow) AllocError) → IfOk r (λ row. row ≡ found) → IsOut found (out_of r)
is_out found (Ok (Some row)) is = is
is_out found (Ok None) is = is
is_out found (Err no_memory) is = tt

turns : (it : Turning) (read : Result (Option Command) SyntaxFault) (b : PlainBook) → TurnsSo read b it → Turns it read b
turns Unknown read b so = tt
turns Nothing read b so = so
turns (Back taken) read b so = so
turns Forth read b so = so
turns (Out row) read b so = so

pub turns_read : (it : Turning) (found read : Result (Option Command) SyntaxFault) (b : PlainBook) → found ≡ read → TurnsSo found b it → Turns it read b
turns_read it found read b is so = subst (λ (r : Result (Option Command) SyntaxFault). Turns it r b) is (turns it found b so)

-- a command that was read takes this out
pub if_taken : (found : Command) (read : Result (Option Command) SyntaxFault) (r : Option ℕ) → Ok (Some found) ≡ read → IfSome r (λ serial. found ≡ Journal (Without serial)) → IfSome r (λ serial. read ≡ Ok (Some (Journal (Without serial))))
if_taken found read (Some serial) is it = subst (λ (x : Command). read ≡ Ok (Some x)) it (sym is)
if_taken found read None is it = tt
