-- A command that changes one map.
use Rattle.std.proofs.Common.{◌≡◌, List, ℕ, refl, subst, sym, Option, Some, None}
use Rattle.journal_model.specs.Blank.{Blank}
use Rattle.journal_model.specs.Book.{PlainBook}
use Rattle.console_operand.specs.declared.reference.Reference.{Reference}
use Rattle.console_map_syntax.specs.declared.command.MapCommand.TheVariants as m
use Rattle.console_map_syntax.specs.declared.command.UpdateFlag.TheVariants as flag
use Rattle.bt_syntax.specs.Needs.{made_by}
use Rattle.bt_syntax.specs.declared.command.Command.{Command}
use Rattle.bt_syntax.specs.declared.command.Command.TheVariants as c
use Rattle.console_answer.specs.declared.answer.Answer.{Answer}
use Rattle.bt_console.specs.declared.edit.Edit.{Edit}
use Rattle.bt_console.specs.declared.edit.Edit.TheVariants as edit
use Rattle.bt_console.specs.Commands.{changed_at, CommandGoes, DoneUnlessRefused}
use Rattle.bt_console.specs.Frames.{Console, on_book}
use Rattle.console_script.specs.Telling.{edit_in}
use Rattle.bt_console.proofs.Commanded.{command_of}

-- it makes no map
pub edit_makes_none : (command : Command) (found : Reference (List ℕ) × Edit) → edit_in command ≡ Some found → made_by command ≡ None
edit_makes_none (c.Map (m.Create path attr name inner_map)) found e = absurd (cc)
edit_makes_none _ found e = refl

-- what is done of the map and the edit is done of the command
does : (s : Console) (command : Command) (own found : Reference (List ℕ) × Edit) (made : PlainBook × Answer) (plain : Option Blank) → Some own ≡ Some found
    → (DoneUnlessRefused s.book (changed_at s.book own.0 own.1) made → CommandGoes s command plain (on_book s made)) → DoneUnlessRefused s.book (changed_at s.book found.0 found.1) made → CommandGoes s command plain (on_book s made)
does s command own found made plain e goes done =
    let same : own ≡ found = cc in
    goes (subst (λ (x : Reference (List ℕ) × Edit). DoneUnlessRefused s.book (changed_at s.book x.0 x.1) made) (sym same) done)

pub edit_goes : (s : Console) (command : Command) (found : Reference (List ℕ) × Edit) (made : PlainBook × Answer) (plain : Option Blank) → edit_in command ≡ Some found
    → DoneUnlessRefused s.book (changed_at s.book found.0 found.1) made → CommandGoes s command plain (on_book s made)
edit_goes s (c.Map (m.Update map key value it)) found made plain e done =
    let command : Command = c.Map (m.Update map key value it) in
    does s command (map, edit.Write key value it) found made plain e (command_of s command command plain (changed_at s.book map (edit.Write key value it)) made refl tt tt refl refl) done
edit_goes s (c.Map (m.Delete map key)) found made plain e done =
    let command : Command = c.Map (m.Delete map key) in
    does s command (map, edit.Delete key) found made plain e (command_of s command command plain (changed_at s.book map (edit.Delete key)) made refl tt tt refl refl) done
edit_goes s (c.Map (m.Push map value)) found made plain e done =
    let command : Command = c.Map (m.Push map value) in
    does s command (map, edit.Write None value flag.Any) found made plain e (command_of s command command plain (changed_at s.book map (edit.Write None value flag.Any)) made refl tt tt refl refl) done
edit_goes s _ found made plain e done = absurd (cc)
