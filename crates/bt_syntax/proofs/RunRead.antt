-- The commands on runs: what is spelled is read, what is read is spelled, and each state can be gone on with.
use Rattle.std.proofs.Common.{◌≡◌, ℕ, List, [], ◌∷◌, refl, sym, ◌∙◌, ap, subst, Option, Some, IsSome}
use Rattle.std.specs.Prelude.{codes}
use Rattle.std.specs.Option.{option_map, option_and_then}
use Rattle.console_operand.specs.Word.{spelled_by}
use Rattle.console_operand.specs.Number.{long_number_of}
use Rattle.console_operand.specs.Automaton.{read}
use Rattle.bt_syntax.specs.FrameSteps.{frame_step, frame_finish}
use Rattle.bt_syntax.specs.RunGrammar.{SpellsRun}
use Rattle.bt_syntax.specs.RunGrammar as g
use Rattle.bt_syntax.specs.RunSteps.{verb_word, verbs, after_verb, run_step, run_finish}
use Rattle.bt_syntax.specs.declared.frame.FrameState.{FrameState}
use Rattle.bt_syntax.specs.declared.frame.FrameState.TheVariants as f
use Rattle.bt_syntax.specs.declared.run.RunCommand.{RunCommand}
use Rattle.bt_syntax.specs.declared.run.RunCommand.TheVariants as command
use Rattle.bt_syntax.specs.declared.run.RunVerb.{RunVerb}
use Rattle.bt_syntax.specs.declared.run.RunVerb.TheVariants as verb
use Rattle.bt_syntax.specs.declared.run.RunState.{RunState}
use Rattle.bt_syntax.specs.declared.run.RunState.TheVariants as r
use Rattle.console_operand.proofs.Reading.{spelled_is, gone_on_by, map_some, some_map, read_within}
use Rattle.console_operand.proofs.WordsRead.{parsed, no_word}
use Rattle.bt_syntax.proofs.FrameRead.{frame_read, frame_spelled, frame_end, frame_ends}

abbrev reads : RunState → List (List ℕ) → Option RunCommand
reads state words = read run_step run_finish state words

of_frame : (state : FrameState) (words : List (List ℕ)) → reads (r.Start state) words ≡ option_map command.Start (read frame_step frame_finish state words)
of_frame state words = read_within frame_step frame_finish run_step run_finish r.Start command.Start (λ s w. refl) (λ s. refl) state words

pub run_read : {words : List (List ℕ)} {command : RunCommand} → SpellsRun words command → reads r.Verb words ≡ Some command
run_read (g.start {words} it) = of_frame f.Dev words ∙ ap (option_map command.Start) (frame_read it)
run_read (g.step is) = ap (λ o. option_and_then (λ next. reads next []) (option_map r.Stepped o)) is

started_spelled : (words : List (List ℕ)) (started : RunCommand) → option_map command.Start (read frame_step frame_finish f.Dev words) ≡ Some started → SpellsRun (codes "start" ∷ words) started
started_spelled words started h =
    map_some (read frame_step frame_finish f.Dev words) command.Start started (λ it e is. subst (SpellsRun (codes "start" ∷ words)) is (g.start (frame_spelled words it e))) h

stepped_spelled : (words : List (List ℕ)) (stepped : RunCommand) → reads r.Step words ≡ Some stepped → SpellsRun (codes "step" ∷ words) stepped
stepped_spelled words stepped h =
    parsed run_step run_finish r.Step long_number_of r.Stepped words stepped (λ w. refl) refl (λ word rest number cut is done.
    let (none, same) = no_word run_step run_finish (r.Stepped number) (command.Step number) rest stepped (λ w. refl) refl done in
    let all : words ≡ word ∷ [] = cut ∙ ap (λ ws. word ∷ ws) none in
    subst (λ ws. SpellsRun (codes "step" ∷ ws) stepped) (sym all) (subst (SpellsRun (codes "step" ∷ word ∷ [])) same (g.step is))) h

verb_spelled : (v : RunVerb) (words : List (List ℕ)) (command : RunCommand) → reads (after_verb v) words ≡ Some command → SpellsRun (verb_word v ∷ words) command
verb_spelled verb.Start words command h = started_spelled words command (sym (of_frame f.Dev words) ∙ h)
verb_spelled verb.Step words command h = stepped_spelled words command h

pub run_spelled : (words : List (List ℕ)) (command : RunCommand) → reads r.Verb words ≡ Some command → SpellsRun words command
run_spelled [] command h = cc
run_spelled (word ∷ words) command h =
    gone_on_by (spelled_by verb_word verbs word) after_verb (λ next. reads next words) command (λ v at e.
    subst (λ first. SpellsRun (first ∷ words) command) (sym (spelled_is verb_word verbs word v at)) (verb_spelled v words command e)) h

abbrev pub run_end : RunState → List (List ℕ)
run_end r.Verb = codes "step" ∷ codes "0" ∷ []
run_end (r.Start state) = frame_end state
run_end r.Step = codes "0" ∷ []
run_end (r.Stepped number) = []

pub run_ends : (state : RunState) → IsSome (reads state (run_end state))
run_ends r.Verb = refl
run_ends (r.Start state) = subst (λ o. IsSome o) (sym (of_frame state (frame_end state))) (some_map command.Start (read frame_step frame_finish state (frame_end state)) (frame_ends state))
run_ends r.Step = refl
run_ends (r.Stepped number) = refl
