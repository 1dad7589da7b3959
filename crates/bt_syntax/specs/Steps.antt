-- A line read a word at a time.
use Rattle.std.specs.Prelude.{◌≡◌, ℕ, nat_lt, if◌then◌else◌, List, [], ◌∷◌, length, Option, None, Result, Ok, Err, ⊤, codes}
use Rattle.std.specs.Option.{option_map}
use Rattle.console_operand.specs.Word.{words, spelled_by}
use Rattle.console_operand.specs.Automaton.{outcome}
use Rattle.console_map_syntax.specs.MapSteps.{map_step, map_finish}
use Rattle.bt_syntax.specs.ProgSteps.{prog_step, prog_finish}
use Rattle.bt_syntax.specs.NetSteps.{net_step, net_finish}
use Rattle.bt_syntax.specs.BatchSteps.{batch_step, batch_finish}
use Rattle.bt_syntax.specs.UnpinSteps.{unpin_step, unpin_finish}
use Rattle.bt_syntax.specs.FrameSteps.{frame_step, frame_finish}
use Rattle.bt_syntax.specs.RunSteps.{run_step, run_finish}
use Rattle.bt_syntax.specs.JournalSteps.{journal_step, journal_finish}
use Rattle.console_map_syntax.specs.declared.state.MapState.TheVariants as m
use Rattle.bt_syntax.specs.declared.prog.state.ProgState.TheVariants as p
use Rattle.bt_syntax.specs.declared.net.state.NetState.TheVariants as n
use Rattle.bt_syntax.specs.declared.batch.BatchState.TheVariants as b
use Rattle.bt_syntax.specs.declared.unpin.UnpinState.TheVariants as u
use Rattle.bt_syntax.specs.declared.frame.FrameState.TheVariants as f
use Rattle.bt_syntax.specs.declared.run.RunState.TheVariants as r
use Rattle.bt_syntax.specs.declared.journal.JournalState.TheVariants as j
use Rattle.bt_syntax.specs.declared.command.Command.{Command}
use Rattle.bt_syntax.specs.declared.command.Command.TheVariants as c
use Rattle.bt_syntax.specs.declared.command.Family.{Family}
use Rattle.bt_syntax.specs.declared.command.Family.TheVariants as family
use Rattle.bt_syntax.specs.declared.command.State.{State}
use Rattle.bt_syntax.specs.declared.command.State.TheVariants as s
use Rattle.bt_syntax.specs.declared.fault.SyntaxFault.{SyntaxFault}
use Rattle.bt_syntax.specs.declared.fault.SyntaxFault.TheVariants.{TooLong, At, NoMemory}

abbrev pub family_word : Family → List ℕ
family_word family.Map = codes "map"
family_word family.Prog = codes "prog"
family_word family.Net = codes "net"
family_word family.Batch = codes "batch"
family_word family.Unpin = codes "unpin"
family_word family.Frame = codes "frame"
family_word family.Run = codes "run"
family_word family.Journal = codes "journal"

abbrev pub families : List Family
families = family.Map ∷ family.Prog ∷ family.Net ∷ family.Batch ∷ family.Unpin ∷ family.Frame ∷ family.Run ∷ family.Journal ∷ []

abbrev pub after_family : Family → State
after_family family.Map = s.Map m.Verb
after_family family.Prog = s.Prog p.Verb
after_family family.Net = s.Net n.Verb
after_family family.Batch = s.Batch b.File
after_family family.Unpin = s.Unpin u.Path
after_family family.Frame = s.Frame f.Dev
after_family family.Run = s.Run r.Verb
after_family family.Journal = s.Journal j.Verb

-- what one more word makes of what was read; none if no line goes on so
abbrev pub step : State → List ℕ → Option State
step s.Start w = option_map after_family (spelled_by family_word families w)
step (s.Map state) w = option_map s.Map (map_step state w)
step (s.Prog state) w = option_map s.Prog (prog_step state w)
step (s.Net state) w = option_map s.Net (net_step state w)
step (s.Batch state) w = option_map s.Batch (batch_step state w)
step (s.Unpin state) w = option_map s.Unpin (unpin_step state w)
step (s.Frame state) w = option_map s.Frame (frame_step state w)
step (s.Run state) w = option_map s.Run (run_step state w)
step (s.Journal state) w = option_map s.Journal (journal_step state w)

-- the command, if a line may end here
abbrev pub finish : State → Option Command
finish s.Start = None
finish (s.Map state) = option_map c.Map (map_finish state)
finish (s.Prog state) = option_map c.Prog (prog_finish state)
finish (s.Net state) = option_map c.Net (net_finish state)
finish (s.Batch state) = option_map c.Batch (batch_finish state)
finish (s.Unpin state) = option_map c.Unpin (unpin_finish state)
finish (s.Frame state) = option_map c.Frame (frame_finish state)
finish (s.Run state) = option_map c.Run (run_finish state)
finish (s.Journal state) = option_map c.Journal (journal_finish state)

abbrev pub told : Result (Option Command) ℕ → Result (Option Command) SyntaxFault
told (Ok found) = Ok found
told (Err k) = Err (At k)

-- what words come to
abbrev pub words_read : List (List ℕ) → Result (Option Command) SyntaxFault
words_read words = told (outcome step finish s.Start 0 words)

-- what a line comes to
abbrev pub line_read : List ℕ → Result (Option Command) SyntaxFault
line_read line = if nat_lt 131072 (length line) then Err TooLong else words_read (words line)

-- a call answers this, unless memory runs out
abbrev pub Answers : Result (Option Command) SyntaxFault → Result (Option Command) SyntaxFault → Type 0
Answers (Err NoMemory) answer = ⊤
Answers result answer = result ≡ answer
