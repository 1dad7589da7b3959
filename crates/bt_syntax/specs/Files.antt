-- The files that lines name, and what stands in those that are at hand.
use Rattle.std.specs.Prelude.{◌≡◌, ℕ, if◌then◌else◌, List, [], ◌∷◌, ◌++◌, Option, Some, None, Result, Ok, Err, codes}
use Rattle.std.specs.Option.{option_map, option_to_list}
use Rattle.std.specs.Str.{bytes_eq}
use Rattle.console_operand.specs.declared.object.Object.{Object}
use Rattle.console_operand.specs.declared.object.Object.TheVariants.{Hex, File}
use Rattle.bt_syntax.specs.Steps.{line_read}
use Rattle.bt_syntax.specs.declared.files.FileText.{FileText}
use Rattle.bt_syntax.specs.declared.prog.command.ProgCommand.{ProgCommand}
use Rattle.bt_syntax.specs.declared.prog.command.ProgCommand.TheVariants as p
use Rattle.bt_syntax.specs.declared.command.Command.{Command}
use Rattle.bt_syntax.specs.declared.command.Command.TheVariants as c
use Rattle.bt_syntax.specs.declared.fault.SyntaxFault.{SyntaxFault}

-- ---- what stands in a file: the first of its path counts
abbrev pub file_at : List FileText → List ℕ → Option (List ℕ)
file_at [] path = None
file_at (file ∷ files) path = if bytes_eq file.path path then Some file.bytes.items else file_at files path

-- ---- the path of the file that a line names
abbrev pub file_of : Object → Option (List ℕ)
file_of (Hex bytes) = None
file_of (File path) = Some path

abbrev pub loaded_from : ProgCommand → Option (List ℕ)
loaded_from (p.Show prog) = None
loaded_from (p.Dump prog) = None
loaded_from (p.Pin prog path) = None
loaded_from (p.Load object path) = file_of object

abbrev pub file_named : Command → Option (List ℕ)
file_named (c.Map command) = None
file_named (c.Prog command) = loaded_from command
file_named (c.Net command) = None
file_named (c.Batch path) = Some path
file_named (c.Unpin path) = None
file_named (c.Frame it) = None
file_named (c.Run command) = None
file_named (c.Journal command) = None

abbrev pub file_in : Result (Option Command) SyntaxFault → Option (List ℕ)
file_in (Ok (Some command)) = file_named command
file_in (Ok None) = None
file_in (Err fault) = None

-- of lines, in their order
abbrev pub files_of : List (List ℕ) → List (List ℕ)
files_of [] = []
files_of (line ∷ lines) = option_to_list (file_in (line_read line)) ++ files_of lines

-- ---- a batch
abbrev pub batch_of : Command → Option (List ℕ)
batch_of (c.Map command) = None
batch_of (c.Prog command) = None
batch_of (c.Net command) = None
batch_of (c.Batch path) = Some path
batch_of (c.Unpin path) = None
batch_of (c.Frame it) = None
batch_of (c.Run command) = None
batch_of (c.Journal command) = None

abbrev pub batch_in : Result (Option Command) SyntaxFault → Option (List ℕ)
batch_in (Ok (Some command)) = batch_of command
batch_in (Ok None) = None
batch_in (Err fault) = None

-- what stands in the file of a line's batch, if that is at hand; none if the line runs no batch
abbrev pub batch_at : List FileText → Result (Option Command) SyntaxFault → Option (Option (List ℕ))
batch_at files read = option_map (file_at files) (batch_in read)

-- the words do not begin as those of a batch
abbrev pub BeginsNoBatch : List (List ℕ) → Type 0
BeginsNoBatch words = (rest : List (List ℕ)) → words ≡ codes "batch" ∷ codes "file" ∷ rest → ⊥

-- they are not one word
abbrev pub AreNotOne : List (List ℕ) → Type 0
AreNotOne words = (word : List ℕ) → words ≡ word ∷ [] → ⊥

-- ---- a program with its bytes in place of its file, if that is at hand
abbrev pub bytes_or : List ℕ → Option (List ℕ) → Object
bytes_or path None = File path
bytes_or path (Some bytes) = Hex bytes

abbrev pub opened_object : List FileText → Object → Object
opened_object files (Hex bytes) = Hex bytes
opened_object files (File path) = bytes_or path (file_at files path)

abbrev pub opened_prog : List FileText → ProgCommand → ProgCommand
opened_prog files (p.Show prog) = p.Show prog
opened_prog files (p.Dump prog) = p.Dump prog
opened_prog files (p.Pin prog path) = p.Pin prog path
opened_prog files (p.Load object path) = p.Load (opened_object files object) path

abbrev pub opened : List FileText → Command → Command
opened files (c.Map command) = c.Map command
opened files (c.Prog command) = c.Prog (opened_prog files command)
opened files (c.Net command) = c.Net command
opened files (c.Batch path) = c.Batch path
opened files (c.Unpin path) = c.Unpin path
opened files (c.Frame it) = c.Frame it
opened files (c.Run command) = c.Run command
opened files (c.Journal command) = c.Journal command
