-- The words of a command on programs, read one at a time.
use Rattle.std.specs.Prelude.{ℕ, if◌then◌else◌, List, [], ◌∷◌, Option, Some, None, codes}
use Rattle.std.specs.Option.{option_map}
use Rattle.std.specs.Str.{bytes_eq}
use Rattle.console_operand.specs.Word.{spelled_by}
use Rattle.console_operand.specs.Object.{object_of}
use Rattle.console_operand.specs.PinSteps.{pin_step, pin_finish}
use Rattle.console_operand.specs.ReferenceSteps.{naming_step}
use Rattle.console_operand.specs.declared.reference.Reference.{Reference}
use Rattle.console_operand.specs.declared.reference.Naming.TheVariants.{Form}
use Rattle.console_operand.specs.declared.reference.Named.{Named}
use Rattle.console_operand.specs.declared.reference.Named.TheVariants as named
use Rattle.console_operand.specs.declared.pin.PinState.TheVariants as pin
use Rattle.bt_syntax.specs.declared.prog.command.ProgCommand.{ProgCommand}
use Rattle.bt_syntax.specs.declared.prog.command.ProgCommand.TheVariants as command
use Rattle.bt_syntax.specs.declared.prog.state.ProgVerb.{ProgVerb}
use Rattle.bt_syntax.specs.declared.prog.state.ProgVerb.TheVariants as verb
use Rattle.bt_syntax.specs.declared.prog.state.ProgQuestion.{ProgQuestion}
use Rattle.bt_syntax.specs.declared.prog.state.ProgQuestion.TheVariants as question
use Rattle.bt_syntax.specs.declared.prog.state.ProgState.{ProgState}
use Rattle.bt_syntax.specs.declared.prog.state.ProgState.TheVariants as p

abbrev pub verb_word : ProgVerb → List ℕ
verb_word verb.Show = codes "show"
verb_word verb.List = codes "list"
verb_word verb.Dump = codes "dump"
verb_word verb.Pin = codes "pin"
verb_word verb.Load = codes "load"

abbrev pub verbs : List ProgVerb
verbs = verb.Show ∷ verb.List ∷ verb.Dump ∷ verb.Pin ∷ verb.Load ∷ []

abbrev pub after_verb : ProgVerb → ProgState
after_verb verb.Show = p.Show
after_verb verb.List = p.Show
after_verb verb.Dump = p.Dump
after_verb verb.Pin = p.Pin (pin.Object Form)
after_verb verb.Load = p.Load

abbrev pub asked : ProgQuestion → Reference (List ℕ) → ProgCommand
asked question.Show prog = command.Show (Some prog)
asked question.Dump prog = command.Dump prog

abbrev pub named_prog : ProgQuestion → Named → ProgState
named_prog q (named.Going n) = p.Prog q n
named_prog q (named.Found prog) = p.Given q prog

abbrev pub xlated_step : List ℕ → Option ProgState
xlated_step w = if bytes_eq w (codes "xlated") then Some (p.Prog question.Dump Form) else None

abbrev pub pinned_prog : Reference (List ℕ) × List ℕ → ProgCommand
pinned_prog it = command.Pin it.0 it.1

abbrev pub prog_step : ProgState → List ℕ → Option ProgState
prog_step p.Verb w = option_map after_verb (spelled_by verb_word verbs w)
prog_step p.Show w = option_map (named_prog question.Show) (naming_step Form w)
prog_step p.Dump w = xlated_step w
prog_step (p.Prog q n) w = option_map (named_prog q) (naming_step n w)
prog_step (p.Given q prog) w = None
prog_step (p.Pin state) w = option_map p.Pin (pin_step state w)
prog_step p.Load w = option_map p.Path (object_of w)
prog_step (p.Path object) w = Some (p.Loaded object w)
prog_step (p.Loaded object path) w = None

abbrev pub prog_finish : ProgState → Option ProgCommand
prog_finish p.Verb = None
prog_finish p.Show = Some (command.Show None)
prog_finish p.Dump = None
prog_finish (p.Prog q n) = None
prog_finish (p.Given q prog) = Some (asked q prog)
prog_finish (p.Pin state) = option_map pinned_prog (pin_finish state)
prog_finish p.Load = None
prog_finish (p.Path object) = None
prog_finish (p.Loaded object path) = Some (command.Load object path)
