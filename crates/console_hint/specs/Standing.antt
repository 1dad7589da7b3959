-- How far a line is well formed.
use Rattle.std.specs.Prelude.{ℕ, ◌<◌, Option, Result, Ok, Err, ⊤}
use Rattle.bt_syntax.specs.declared.command.Command.{Command}
use Rattle.bt_syntax.specs.declared.fault.SyntaxFault.{SyntaxFault}
use Rattle.bt_syntax.specs.declared.fault.SyntaxFault.TheVariants.{At, TooLong, NoMemory}

-- some well-formed line begins with the first so many words of a line that is read so
abbrev pub ReadsBeyond : ℕ → Result (Option Command) SyntaxFault → Type 0
ReadsBeyond count (Ok command) = ⊤
ReadsBeyond count (Err (At number)) = count < number
ReadsBeyond count (Err TooLong) = ⊥
ReadsBeyond count (Err NoMemory) = ⊥
