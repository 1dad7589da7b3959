-- The words of a command on runs, read one at a time.
use Rattle.std.specs.Prelude.{ℕ, List, [], ◌∷◌, Option, Some, None, codes}
use Rattle.std.specs.Option.{option_map}
use Rattle.console_operand.specs.Word.{spelled_by}
use Rattle.console_operand.specs.Number.{long_number_of}
use Rattle.bt_syntax.specs.FrameSteps.{frame_step, frame_finish}
use Rattle.bt_syntax.specs.declared.frame.FrameState.TheVariants.{Dev}
use Rattle.bt_syntax.specs.declared.run.RunCommand.{RunCommand}
use Rattle.bt_syntax.specs.declared.run.RunCommand.TheVariants as command
use Rattle.bt_syntax.specs.declared.run.RunVerb.{RunVerb}
use Rattle.bt_syntax.specs.declared.run.RunVerb.TheVariants as verb
use Rattle.bt_syntax.specs.declared.run.RunState.{RunState}
use Rattle.bt_syntax.specs.declared.run.RunState.TheVariants as r

abbrev pub verb_word : RunVerb → List ℕ
verb_word verb.Start = codes "start"
verb_word verb.Step = codes "step"

abbrev pub verbs : List RunVerb
verbs = verb.Start ∷ verb.Step ∷ []

abbrev pub after_verb : RunVerb → RunState
after_verb verb.Start = r.Start Dev
after_verb verb.Step = r.Step

abbrev pub run_step : RunState → List ℕ → Option RunState
run_step r.Verb w = option_map after_verb (spelled_by verb_word verbs w)
run_step (r.Start state) w = option_map r.Start (frame_step state w)
run_step r.Step w = option_map r.Stepped (long_number_of w)
run_step (r.Stepped number) w = None

abbrev pub run_finish : RunState → Option RunCommand
run_finish r.Verb = None
run_finish (r.Start state) = option_map command.Start (frame_finish state)
run_finish r.Step = None
run_finish (r.Stepped number) = Some (command.Step number)
