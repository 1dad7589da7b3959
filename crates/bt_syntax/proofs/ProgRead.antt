-- The commands on programs: what is spelled is read, what is read is spelled, and each state can be gone on with.
use Rattle.std.proofs.Common.{◌≡◌, ℕ, List, [], ◌∷◌, ◌++◌, refl, sym, ◌∙◌, ap, subst, Option, Some, None, IsSome}
use Rattle.std.specs.Prelude.{codes}
use Rattle.std.specs.Option.{option_map, option_and_then}
use Rattle.std.proofs.lemmas.List.{append-nil}
use Rattle.console_operand.specs.Word.{spelled_by}
use Rattle.console_operand.specs.Automaton.{read}
use Rattle.console_operand.specs.Object.{object_of}
use Rattle.console_operand.specs.Reference.{IsReference, id, pinned, named}
use Rattle.console_operand.specs.PinSteps.{pin_step, pin_finish}
use Rattle.bt_syntax.specs.ProgGrammar.{SpellsProg}
use Rattle.bt_syntax.specs.ProgGrammar as g
use Rattle.bt_syntax.specs.ProgSteps.{verb_word, verbs, after_verb, asked, named_prog, pinned_prog, prog_step, prog_finish}
use Rattle.console_operand.specs.declared.reference.Reference.{Reference}
use Rattle.console_operand.specs.declared.reference.Form.TheVariants as form
use Rattle.console_operand.specs.declared.reference.Naming.TheVariants as n
use Rattle.console_operand.specs.declared.pin.PinState.{PinState}
use Rattle.console_operand.specs.declared.pin.PinState.TheVariants as pin
use Rattle.bt_syntax.specs.declared.prog.command.ProgCommand.{ProgCommand}
use Rattle.bt_syntax.specs.declared.prog.command.ProgCommand.TheVariants as command
use Rattle.bt_syntax.specs.declared.prog.state.ProgVerb.{ProgVerb}
use Rattle.bt_syntax.specs.declared.prog.state.ProgVerb.TheVariants as verb
use Rattle.bt_syntax.specs.declared.prog.state.ProgQuestion.{ProgQuestion}
use Rattle.bt_syntax.specs.declared.prog.state.ProgQuestion.TheVariants as q
use Rattle.bt_syntax.specs.declared.prog.state.ProgState.{ProgState}
use Rattle.bt_syntax.specs.declared.prog.state.ProgState.TheVariants as p
use Rattle.console_operand.proofs.Reading.{spelled_is, gone_on_by, map_some, some_map, read_within}
use Rattle.console_operand.proofs.WordsRead.{literal, parsed, any_word, no_word}
use Rattle.console_operand.proofs.PinRead.{pin_read, pin_spelled, pin_end, pin_ends}
use Rattle.console_operand.proofs.ReferenceRead.{reference_read, reference_spelled, naming_end}

abbrev reads : ProgState → List (List ℕ) → Option ProgCommand
reads state words = read prog_step prog_finish state words

of_pin : (state : PinState) (words : List (List ℕ)) → reads (p.Pin state) words ≡ option_map pinned_prog (read pin_step pin_finish state words)
of_pin state words = read_within pin_step pin_finish prog_step prog_finish p.Pin pinned_prog (λ s w. refl) (λ s. refl) state words

-- a program that is asked about
asked_read : (question : ProgQuestion) {name : List (List ℕ)} {prog : Reference (List ℕ)} → IsReference name prog → reads (p.Prog question n.Form) name ≡ Some (asked question prog)
asked_read question {name} it =
    ap (reads (p.Prog question n.Form)) (sym (append-nil name)) ∙ reference_read prog_step prog_finish (named_prog question) (λ naming w. refl) it []

-- with a program, `show` is read as any question is
shown_read : {name : List (List ℕ)} {prog : Reference (List ℕ)} → IsReference name prog → reads p.Show name ≡ Some (command.Show (Some prog))
shown_read (id {word} {number} e) = asked_read q.Show (id {word = word} {number = number} e)
shown_read pinned = refl
shown_read named = refl

pub prog_read : {words : List (List ℕ)} {command : ProgCommand} → SpellsProg words command → reads p.Verb words ≡ Some command
prog_read g.show_all = refl
prog_read g.list_all = refl
prog_read (g.show it) = shown_read it
prog_read (g.list it) = shown_read it
prog_read (g.dump it) = asked_read q.Dump it
prog_read (g.pin {name} {prog} {path} it) = of_pin (pin.Object n.Form) (name ++ path ∷ []) ∙ ap (option_map pinned_prog) (pin_read it path)
prog_read (g.load {word} {path} is) = ap (λ o. option_and_then (λ next. reads next (path ∷ [])) (option_map p.Path o)) is

-- what is read of a question is a program
record IsAsked (question : ProgQuestion) (words : List (List ℕ)) (command : ProgCommand) : Type 0 where
  prog : Reference (List ℕ)
  is : IsReference words prog
  same : asked question prog ≡ command

asked_spelled : (question : ProgQuestion) (words : List (List ℕ)) (command : ProgCommand) → reads (p.Prog question n.Form) words ≡ Some command → IsAsked question words command
asked_spelled question words command h =
    let it = reference_spelled prog_step prog_finish (named_prog question) (λ naming w. refl) (λ naming. refl) words command h in
    let (none, same) = no_word prog_step prog_finish (p.Given question it.map) (asked question it.map) it.rest command (λ w. refl) refl it.behind in
    let all : words ≡ it.name = it.cut ∙ ap (λ r. it.name ++ r) none ∙ append-nil it.name in
    record { prog = it.map; is = subst (λ ws. IsReference ws it.map) (sym all) it.is; same = same }

shown_spelled : (verb : List ℕ) → SpellsProg (verb ∷ []) (command.Show None) → ((name : List (List ℕ)) (prog : Reference (List ℕ)) → IsReference name prog → SpellsProg (verb ∷ name) (command.Show (Some prog))) →
    (words : List (List ℕ)) (shown : ProgCommand) → reads p.Show words ≡ Some shown → SpellsProg (verb ∷ words) shown
shown_spelled verb bare given [] shown h = let is : command.Show None ≡ shown = cc in subst (SpellsProg (verb ∷ [])) is bare
shown_spelled verb bare given (word ∷ words) shown h =
    let it = asked_spelled q.Show (word ∷ words) shown h in
    subst (SpellsProg (verb ∷ word ∷ words)) it.same (given (word ∷ words) it.prog it.is)

dumped_spelled : (words : List (List ℕ)) (dumped : ProgCommand) → reads p.Dump words ≡ Some dumped → SpellsProg (codes "dump" ∷ words) dumped
dumped_spelled words dumped h =
    literal prog_step prog_finish p.Dump (p.Prog q.Dump n.Form) (codes "xlated") words dumped (λ w. refl) refl (λ rest cut more.
    let it = asked_spelled q.Dump rest dumped more in
    subst (λ ws. SpellsProg (codes "dump" ∷ ws) dumped) (sym cut) (subst (SpellsProg (codes "dump" ∷ codes "xlated" ∷ rest)) it.same (g.dump it.is))) h

pinned_spelled : (words : List (List ℕ)) (it_is : ProgCommand) → option_map pinned_prog (read pin_step pin_finish (pin.Object n.Form) words) ≡ Some it_is → SpellsProg (codes "pin" ∷ words) it_is
pinned_spelled words it_is h =
    map_some (read pin_step pin_finish (pin.Object n.Form) words) pinned_prog it_is (λ it e is.
    let found = pin_spelled words it e in
    subst (λ all. SpellsProg (codes "pin" ∷ all) it_is) (sym found.cut) (subst (SpellsProg (codes "pin" ∷ (found.name ++ it.1 ∷ []))) is (g.pin found.is))) h

loaded_spelled : (words : List (List ℕ)) (loaded : ProgCommand) → reads p.Load words ≡ Some loaded → SpellsProg (codes "load" ∷ words) loaded
loaded_spelled words loaded h =
    parsed prog_step prog_finish p.Load object_of p.Path words loaded (λ w. refl) refl (λ word rest object cut is more.
    any_word prog_step prog_finish (p.Path object) (p.Loaded object) rest loaded (λ w. refl) refl (λ path last there done.
    let (none, same) = no_word prog_step prog_finish (p.Loaded object path) (command.Load object path) last loaded (λ w. refl) refl done in
    let all : words ≡ word ∷ path ∷ [] = cut ∙ ap (λ ws. word ∷ ws) (there ∙ ap (λ ws. path ∷ ws) none) in
    subst (λ ws. SpellsProg (codes "load" ∷ ws) loaded) (sym all) (subst (SpellsProg (codes "load" ∷ word ∷ path ∷ [])) same (g.load is))) more) h

verb_spelled : (v : ProgVerb) (words : List (List ℕ)) (command : ProgCommand) → reads (after_verb v) words ≡ Some command → SpellsProg (verb_word v ∷ words) command
verb_spelled verb.Show words command h = shown_spelled (codes "show") g.show_all (λ name prog it. g.show it) words command h
verb_spelled verb.List words command h = shown_spelled (codes "list") g.list_all (λ name prog it. g.list it) words command h
verb_spelled verb.Dump words command h = dumped_spelled words command h
verb_spelled verb.Pin words command h = pinned_spelled words command (sym (of_pin (pin.Object n.Form) words) ∙ h)
verb_spelled verb.Load words command h = loaded_spelled words command h

pub prog_spelled : (words : List (List ℕ)) (command : ProgCommand) → reads p.Verb words ≡ Some command → SpellsProg words command
prog_spelled [] command h = cc
prog_spelled (word ∷ words) command h =
    gone_on_by (spelled_by verb_word verbs word) after_verb (λ next. reads next words) command (λ v at e.
    subst (λ first. SpellsProg (first ∷ words) command) (sym (spelled_is verb_word verbs word v at)) (verb_spelled v words command e)) h

abbrev pub prog_end : ProgState → List (List ℕ)
prog_end p.Verb = codes "show" ∷ []
prog_end p.Show = []
prog_end p.Dump = codes "xlated" ∷ codes "id" ∷ codes "1" ∷ []
prog_end (p.Prog question naming) = naming_end naming
prog_end (p.Given question prog) = []
prog_end (p.Pin state) = pin_end state
prog_end p.Load = codes "x" ∷ codes "x" ∷ []
prog_end (p.Path object) = codes "x" ∷ []
prog_end (p.Loaded object path) = []

pub prog_ends : (state : ProgState) → IsSome (reads state (prog_end state))
prog_ends p.Verb = refl
prog_ends p.Show = refl
prog_ends p.Dump = refl
prog_ends (p.Prog question n.Form) = refl
prog_ends (p.Prog question (n.Object form.Id)) = refl
prog_ends (p.Prog question (n.Object form.Pinned)) = refl
prog_ends (p.Prog question (n.Object form.Name)) = refl
prog_ends (p.Given question prog) = refl
prog_ends (p.Pin state) = subst (λ o. IsSome o) (sym (of_pin state (pin_end state))) (some_map pinned_prog (read pin_step pin_finish state (pin_end state)) (pin_ends state))
prog_ends p.Load = refl
prog_ends (p.Path object) = refl
prog_ends (p.Loaded object path) = refl
