-- Which lines are well formed, which command each spells, and where a line that is not well formed goes wrong.
use Rattle.std.specs.Prelude.{ℕ, ◌+◌, ◌-◌, ◌<◌, ◌≤◌, List, [], ◌∷◌, ◌++◌, length, take, Result, Err, ⊤, codes}
use Rattle.console_map_syntax.specs.MapGrammar.{SpellsMap}
use Rattle.bt_syntax.specs.ProgGrammar.{SpellsProg}
use Rattle.bt_syntax.specs.NetGrammar.{SpellsNet}
use Rattle.bt_syntax.specs.FrameGrammar.{IsFrame}
use Rattle.bt_syntax.specs.RunGrammar.{SpellsRun}
use Rattle.bt_syntax.specs.JournalGrammar.{SpellsJournal}
use Rattle.console_map_syntax.specs.declared.command.MapCommand.{MapCommand}
use Rattle.bt_syntax.specs.declared.prog.command.ProgCommand.{ProgCommand}
use Rattle.bt_syntax.specs.declared.net.command.NetCommand.{NetCommand}
use Rattle.bt_syntax.specs.declared.frame.Frame.{Frame}
use Rattle.bt_syntax.specs.declared.run.RunCommand.{RunCommand}
use Rattle.bt_syntax.specs.declared.journal.JournalCommand.{JournalCommand}
use Rattle.bt_syntax.specs.declared.command.Command.{Command}
use Rattle.bt_syntax.specs.declared.command.Command.TheVariants as c
use Rattle.bt_syntax.specs.declared.fault.SyntaxFault.{SyntaxFault}
use Rattle.bt_syntax.specs.declared.fault.SyntaxFault.TheVariants.{At}

-- the grammar: the words spell this command
pub data Spells : List (List ℕ) → Command → Type 0 where
  map : {words : List (List ℕ)} {command : MapCommand} → SpellsMap words command → Spells (codes "map" ∷ words) (c.Map command)
  prog : {words : List (List ℕ)} {command : ProgCommand} → SpellsProg words command → Spells (codes "prog" ∷ words) (c.Prog command)
  net : {words : List (List ℕ)} {command : NetCommand} → SpellsNet words command → Spells (codes "net" ∷ words) (c.Net command)
  batch : {path : List ℕ} → Spells (codes "batch" ∷ codes "file" ∷ path ∷ []) (c.Batch path)
  unpin : {path : List ℕ} → Spells (codes "unpin" ∷ path ∷ []) (c.Unpin path)
  frame : {words : List (List ℕ)} {it : Frame} → IsFrame words it → Spells (codes "frame" ∷ words) (c.Frame it)
  run : {words : List (List ℕ)} {command : RunCommand} → SpellsRun words command → Spells (codes "run" ∷ words) (c.Run command)
  journal : {words : List (List ℕ)} {command : JournalCommand} → SpellsJournal words command →
      Spells (codes "journal" ∷ words) (c.Journal command)

-- some well-formed line begins with these words
abbrev pub Begins : List (List ℕ) → Type 0
Begins front = (rest : List (List ℕ)) × (command : Command) × Spells (front ++ rest) command

-- k is the least number of words with which no well-formed line begins, or the number of words plus 1 if the line
-- ends too early
pub record IsFault (words : List (List ℕ)) (k : ℕ) : Type 0 where
  pub some : 0 < k
  pub within : k ≤ length words + 1
  pub before : Begins (take (k - 1) words)
  pub none : k ≤ length words → Begins (take k words) → ⊥
  pub refused : (command : Command) → Spells words command → ⊥

abbrev pub IfAt : {A : Type 0} → Result A SyntaxFault → (ℕ → Type 0) → Type 0
IfAt (Err (At k)) P = P k
IfAt _ P = ⊤
