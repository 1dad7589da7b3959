-- What a line is told to have come to, when its answer was written.
use Rattle.std.specs.Prelude.{◌≡◌, ℕ, List, Option, Some, None, Result, IfOk}
use Rattle.console_operand.specs.declared.reference.Reference.{Reference}
use Rattle.console_map_syntax.specs.declared.command.UpdateFlag.TheVariants as flag
use Rattle.console_map_syntax.specs.declared.command.MapCommand.TheVariants as m
use Rattle.bt_syntax.specs.declared.command.Command.{Command}
use Rattle.bt_syntax.specs.declared.command.Command.TheVariants as c
use Rattle.console_answer.specs.declared.answer.Answer.{Answer}
use Rattle.console_answer.specs.declared.told.Told.{Told}
use Rattle.console_answer.specs.Told.{told_of}
use Rattle.console_text.specs.declared.output.WriteFault.{WriteFault}
use Rattle.console_text.specs.Text.{text_of}
use Rattle.console_text.specs.Written.{Writes}
use Rattle.bt_console.specs.declared.edit.Edit.{Edit}
use Rattle.bt_console.specs.declared.edit.Edit.TheVariants as edit
use Rattle.bt_console.specs.Lines.{line_text}

-- the map that a command writes into, and how
abbrev pub edit_in : Command → Option (Reference (List ℕ) × Edit)
edit_in (c.Map (m.Update map key value it)) = Some (map, edit.Write key value it)
edit_in (c.Map (m.Delete map key)) = Some (map, edit.Delete key)
edit_in (c.Map (m.Push map value)) = Some (map, edit.Write None value flag.Any)
edit_in _ = None

-- some right answer to a command was written, and what it comes to is told
pub record TellsAnswer (is_right : Answer → Type 0) (old new : Option (List ℕ)) (told : Result Told WriteFault) : Type 0 where
  pub answer : Answer
  pub right : is_right answer
  pub wrote : Writes old new told (text_of answer)
  pub tells : IfOk told (λ it. it ≡ told_of (Some answer))

-- the same of a line, which may answer nothing
pub record TellsLine (is_right : Option Answer → Type 0) (old new : Option (List ℕ)) (told : Result Told WriteFault) : Type 0 where
  pub answer : Option Answer
  pub right : is_right answer
  pub wrote : Writes old new told (line_text answer)
  pub tells : IfOk told (λ it. it ≡ told_of answer)
