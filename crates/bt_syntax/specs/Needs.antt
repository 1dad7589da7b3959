-- The maps that the lines of a script make.
use Rattle.std.specs.Prelude.{◌≡◌, ◌≤◌, length, ℕ, true, codes, List, [], ◌∷◌, ◌++◌, Option, Some, None, Result, Ok, Err}
use Rattle.std.specs.Option.{option_to_list}
use Rattle.bt_mapkind.specs.declared.attr.MapAttr.{MapAttr}
use Rattle.console_operand.specs.Line.{lines_of}
use Rattle.console_operand.specs.Word.{words}
use Rattle.bt_syntax.specs.Grammar.{Spells}
use Rattle.bt_syntax.specs.Files.{batch_at}
use Rattle.bt_syntax.specs.Steps.{line_read}
use Rattle.console_operand.specs.declared.reference.Reference.{Reference}
use Rattle.bt_mapkind.specs.Attributes.{good}
use Rattle.console_map_syntax.specs.Made.{map_made}
use Rattle.console_map_syntax.specs.declared.command.MapCommand.TheVariants as m
use Rattle.bt_syntax.specs.declared.command.Command.{Command}
use Rattle.bt_syntax.specs.declared.command.Command.TheVariants as c
use Rattle.bt_syntax.specs.declared.fault.SyntaxFault.{SyntaxFault}
use Rattle.bt_syntax.specs.declared.files.FileText.{FileText}

-- the words of a line that does not begin as one that makes a map
abbrev pub MakesNoMap : List (List ℕ) → Type 0
MakesNoMap words = (rest : List (List ℕ)) → words ≡ codes "map" ∷ codes "create" ∷ rest → ⊥

abbrev pub made_by : Command → Option MapAttr
made_by (c.Map command) = map_made command
made_by (c.Prog command) = None
made_by (c.Net command) = None
made_by (c.Batch path) = None
made_by (c.Unpin path) = None
made_by (c.Frame it) = None
made_by (c.Run command) = None
made_by (c.Journal command) = None

abbrev pub need_in : Result (Option Command) SyntaxFault → Option MapAttr
need_in (Ok (Some command)) = made_by command
need_in (Ok None) = None
need_in (Err fault) = None

abbrev pub need_of : List ℕ → Option MapAttr
need_of line = need_in (line_read line)

-- one for each line that needs one, in the order of the lines
abbrev pub needs_of : List (List ℕ) → List MapAttr
needs_of [] = []
needs_of (line ∷ lines) = option_to_list (need_of line) ++ needs_of lines

-- those of a batch stand in place of its line
abbrev pub needs_at : Option (Option (List ℕ)) → List ℕ → List MapAttr
needs_at None line = option_to_list (need_of line)
needs_at (Some None) line = []
needs_at (Some (Some text)) line = needs_of (lines_of text)

abbrev pub needs_with : List FileText → List (List ℕ) → List MapAttr
needs_with files [] = []
needs_with files (line ∷ lines) = needs_at (batch_at files (line_read line)) line ++ needs_with files lines

-- the line is a well-formed `map create` with these attributes, and they are good
pub record Makes (line : List ℕ) (attr : MapAttr) : Type 0 where
  pub path : List ℕ
  pub name : List ℕ
  pub inner : Option (Reference (List ℕ))
  pub limit : length line ≤ 131072
  pub spelled : Spells (words line) (c.Map (m.Create path attr name inner))
  pub limits : good attr ≡ true
