-- The commands on maps: what is spelled is read, what is read is spelled, and each state can be gone on with.
use Rattle.std.proofs.Common.{◌≡◌, ℕ, List, [], ◌∷◌, ◌++◌, refl, sym, ◌∙◌, ap, subst, Option, Some, None, IsSome}
use Rattle.std.specs.Prelude.{codes}
use Rattle.std.specs.Option.{option_map}
use Rattle.console_operand.specs.Word.{spelled_by}
use Rattle.console_operand.specs.Automaton.{read}
use Rattle.console_operand.specs.Reference.{IsReference}
use Rattle.console_map_syntax.specs.MapGrammar.{SpellsMap}
use Rattle.console_map_syntax.specs.MapGrammar as g
use Rattle.console_map_syntax.specs.CreateSteps.{create_step, create_finish}
use Rattle.console_map_syntax.specs.UpdateSteps.{update_step, update_finish}
use Rattle.console_map_syntax.specs.KeySteps.{without_key, key_step, key_finish}
use Rattle.console_map_syntax.specs.PushSteps.{push_step, push_finish}
use Rattle.console_operand.specs.PinSteps.{pin_step, pin_finish}
use Rattle.console_map_syntax.specs.WholeSteps.{without_map, of_map, whole_step, whole_finish}
use Rattle.console_map_syntax.specs.MapSteps.{verb_word, verbs, after_verb, pinned_map, map_step, map_finish}
use Rattle.console_operand.specs.declared.reference.Reference.{Reference}
use Rattle.console_operand.specs.declared.reference.Naming.TheVariants as n
use Rattle.console_operand.specs.declared.pin.PinState.{PinState}
use Rattle.console_operand.specs.declared.pin.PinState.TheVariants as pin
use Rattle.console_map_syntax.specs.declared.command.MapCommand.{MapCommand}
use Rattle.console_map_syntax.specs.declared.command.MapCommand.TheVariants as command
use Rattle.console_map_syntax.specs.declared.create.CreateState.{CreateState}
use Rattle.console_map_syntax.specs.declared.create.CreateState.TheVariants as c
use Rattle.console_map_syntax.specs.declared.update.UpdateState.{UpdateState}
use Rattle.console_map_syntax.specs.declared.update.UpdateState.TheVariants as u
use Rattle.console_map_syntax.specs.declared.key.KeyVerb.TheVariants as kv
use Rattle.console_map_syntax.specs.declared.key.KeyState.{KeyState}
use Rattle.console_map_syntax.specs.declared.key.KeyState.TheVariants as k
use Rattle.console_map_syntax.specs.declared.push.PushState.{PushState}
use Rattle.console_map_syntax.specs.declared.push.PushState.TheVariants as p
use Rattle.console_map_syntax.specs.declared.whole.WholeVerb.{WholeVerb}
use Rattle.console_map_syntax.specs.declared.whole.WholeVerb.TheVariants as wv
use Rattle.console_map_syntax.specs.declared.whole.WholeState.{WholeState}
use Rattle.console_map_syntax.specs.declared.whole.WholeState.TheVariants as w
use Rattle.console_map_syntax.specs.declared.state.MapVerb.{MapVerb}
use Rattle.console_map_syntax.specs.declared.state.MapVerb.TheVariants as verb
use Rattle.console_map_syntax.specs.declared.state.MapState.{MapState}
use Rattle.console_map_syntax.specs.declared.state.MapState.TheVariants as m
use Rattle.console_operand.proofs.Reading.{spelled_is, gone_on_by, map_some, some_map, read_part, read_within}
use Rattle.console_map_syntax.proofs.CreateRead.{create_read, create_spelled, create_end, create_ends}
use Rattle.console_map_syntax.proofs.UpdateRead.{update_read, update_spelled, update_end, update_ends}
use Rattle.console_map_syntax.proofs.KeyRead.{bare_read, key_read, key_spelled, key_end, key_ends}
use Rattle.console_map_syntax.proofs.PushRead.{push_read, push_spelled, push_end, push_ends}
use Rattle.console_operand.proofs.PinRead.{pin_read, pin_spelled, pin_end, pin_ends}
use Rattle.console_map_syntax.proofs.WholeRead.{whole_read, whole_spelled, whole_end, whole_ends}

abbrev reads : MapState → List (List ℕ) → Option MapCommand
reads state words = read map_step map_finish state words

-- each command is read as by itself
pub of_create : (state : CreateState) (words : List (List ℕ)) → reads (m.Create state) words ≡ read create_step create_finish state words
of_create state words = read_part create_step create_finish map_step map_finish m.Create (λ s w. refl) (λ s. refl) state words

of_update : (state : UpdateState) (words : List (List ℕ)) → reads (m.Update state) words ≡ read update_step update_finish state words
of_update state words = read_part update_step update_finish map_step map_finish m.Update (λ s w. refl) (λ s. refl) state words

of_key : (state : KeyState) (words : List (List ℕ)) → reads (m.Key state) words ≡ read key_step key_finish state words
of_key state words = read_part key_step key_finish map_step map_finish m.Key (λ s w. refl) (λ s. refl) state words

of_push : (state : PushState) (words : List (List ℕ)) → reads (m.Push state) words ≡ read push_step push_finish state words
of_push state words = read_part push_step push_finish map_step map_finish m.Push (λ s w. refl) (λ s. refl) state words

of_pin : (state : PinState) (words : List (List ℕ)) → reads (m.Pin state) words ≡ option_map pinned_map (read pin_step pin_finish state words)
of_pin state words = read_within pin_step pin_finish map_step map_finish m.Pin pinned_map (λ s w. refl) (λ s. refl) state words

of_whole : (state : WholeState) (words : List (List ℕ)) → reads (m.Whole state) words ≡ read whole_step whole_finish state words
of_whole state words = read_part whole_step whole_finish map_step map_finish m.Whole (λ s w. refl) (λ s. refl) state words

on_map_read : (v : WholeVerb) {name : List (List ℕ)} {map : Reference (List ℕ)} → IsReference name map → reads (m.Whole (w.Bare v)) name ≡ Some (of_map v map)
on_map_read v {name} it = of_whole (w.Bare v) name ∙ whole_read v it

pub map_read : {words : List (List ℕ)} {command : MapCommand} → SpellsMap words command → reads m.Verb words ≡ Some command
map_read g.show_all = refl
map_read g.list_all = refl
map_read (g.show it) = on_map_read wv.Show it
map_read (g.list it) = on_map_read wv.Show it
map_read (g.create {path} {words} all done) = of_create c.Path (path ∷ words) ∙ create_read all done
map_read (g.dump it) = on_map_read wv.Dump it
map_read (g.update {name} {words} it given done) = of_update (u.Map n.Form) (name ++ words) ∙ update_read it given done
map_read (g.lookup {name} it) = of_key (k.Map kv.Lookup n.Form) name ∙ bare_read kv.Lookup it
map_read (g.lookup_key {name} {words} it given) = of_key (k.Map kv.Lookup n.Form) (name ++ codes "key" ∷ words) ∙ key_read kv.Lookup it given
map_read (g.getnext {name} it) = of_key (k.Map kv.GetNext n.Form) name ∙ bare_read kv.GetNext it
map_read (g.getnext_key {name} {words} it given) = of_key (k.Map kv.GetNext n.Form) (name ++ codes "key" ∷ words) ∙ key_read kv.GetNext it given
map_read (g.delete {name} {words} it given) = of_key (k.Map kv.Delete n.Form) (name ++ codes "key" ∷ words) ∙ key_read kv.Delete it given
map_read (g.peek it) = on_map_read wv.Peek it
map_read (g.push {name} {words} it given) = of_push (p.Map n.Form) (name ++ codes "value" ∷ words) ∙ push_read it given
map_read (g.enqueue {name} {words} it given) = of_push (p.Map n.Form) (name ++ codes "value" ∷ words) ∙ push_read it given
map_read (g.pop it) = on_map_read wv.Pop it
map_read (g.dequeue it) = on_map_read wv.Pop it
map_read (g.freeze it) = on_map_read wv.Freeze it
map_read (g.pin {name} {map} {path} it) = of_pin (pin.Object n.Form) (name ++ path ∷ []) ∙ ap (option_map pinned_map) (pin_read it path)

created_spelled : (words : List (List ℕ)) (command : MapCommand) → read create_step create_finish c.Path words ≡ Some command → SpellsMap (codes "create" ∷ words) command
created_spelled [] command h = cc
created_spelled (path ∷ words) command h = let (v, all, done) = create_spelled words path command h in g.create all done

updated_spelled : (words : List (List ℕ)) (command : MapCommand) → read update_step update_finish (u.Map n.Form) words ≡ Some command → SpellsMap (codes "update" ∷ words) command
updated_spelled words command h =
    let it = update_spelled words command h in
    let (v, given, done) = it.behind in
    subst (λ all. SpellsMap (codes "update" ∷ all) command) (sym it.cut) (g.update it.is given done)

pinned_spelled : (words : List (List ℕ)) (command : MapCommand) → option_map pinned_map (read pin_step pin_finish (pin.Object n.Form) words) ≡ Some command → SpellsMap (codes "pin" ∷ words) command
pinned_spelled words command h =
    map_some (read pin_step pin_finish (pin.Object n.Form) words) pinned_map command (λ it e is.
    let found = pin_spelled words it e in
    subst (λ all. SpellsMap (codes "pin" ∷ all) command) (sym found.cut) (subst (SpellsMap (codes "pin" ∷ (found.name ++ it.1 ∷ []))) is (g.pin found.is))) h

shown_all : (verb : List ℕ) → SpellsMap (verb ∷ []) (command.Show None) → (shown : MapCommand) → without_map wv.Show ≡ Some shown → SpellsMap (verb ∷ []) shown
shown_all verb row shown h = let is : command.Show None ≡ shown = cc in subst (SpellsMap (verb ∷ [])) is row

looked_up : (name : List (List ℕ)) (map : Reference (List ℕ)) (asked : MapCommand) → IsReference name map → without_key kv.Lookup map ≡ Some asked → SpellsMap (codes "lookup" ∷ name) asked
looked_up name map asked it h = let is : command.Lookup map None ≡ asked = cc in subst (SpellsMap (codes "lookup" ∷ name)) is (g.lookup it)

next_asked : (name : List (List ℕ)) (map : Reference (List ℕ)) (asked : MapCommand) → IsReference name map → without_key kv.GetNext map ≡ Some asked → SpellsMap (codes "getnext" ∷ name) asked
next_asked name map asked it h = let is : command.GetNext map None ≡ asked = cc in subst (SpellsMap (codes "getnext" ∷ name)) is (g.getnext it)

verb_spelled : (v : MapVerb) (words : List (List ℕ)) (command : MapCommand) → reads (after_verb v) words ≡ Some command → SpellsMap (verb_word v ∷ words) command
verb_spelled verb.Show words command h = whole_spelled wv.Show (codes "show") (shown_all (codes "show") g.show_all) (λ name map it. g.show it) words command (sym (of_whole (w.Bare wv.Show) words) ∙ h)
verb_spelled verb.List words command h = whole_spelled wv.Show (codes "list") (shown_all (codes "list") g.list_all) (λ name map it. g.list it) words command (sym (of_whole (w.Bare wv.Show) words) ∙ h)
verb_spelled verb.Create words command h = created_spelled words command (sym (of_create c.Path words) ∙ h)
verb_spelled verb.Dump words command h = whole_spelled wv.Dump (codes "dump") (λ command none. cc) (λ name map it. g.dump it) words command (sym (of_whole (w.Bare wv.Dump) words) ∙ h)
verb_spelled verb.Update words command h = updated_spelled words command (sym (of_update (u.Map n.Form) words) ∙ h)
verb_spelled verb.Lookup words command h =
    key_spelled kv.Lookup (codes "lookup") looked_up (λ name words map bytes it given. g.lookup_key it given) words command (sym (of_key (k.Map kv.Lookup n.Form) words) ∙ h)
verb_spelled verb.GetNext words command h =
    key_spelled kv.GetNext (codes "getnext") next_asked (λ name words map bytes it given. g.getnext_key it given) words command (sym (of_key (k.Map kv.GetNext n.Form) words) ∙ h)
verb_spelled verb.Delete words command h =
    key_spelled kv.Delete (codes "delete") (λ name map command it none. cc) (λ name words map bytes it given. g.delete it given) words command (sym (of_key (k.Map kv.Delete n.Form) words) ∙ h)
verb_spelled verb.Peek words command h = whole_spelled wv.Peek (codes "peek") (λ command none. cc) (λ name map it. g.peek it) words command (sym (of_whole (w.Bare wv.Peek) words) ∙ h)
verb_spelled verb.Push words command h =
    push_spelled (codes "push") (λ name words map pushed it given. g.push it given) words command (sym (of_push (p.Map n.Form) words) ∙ h)
verb_spelled verb.Enqueue words command h =
    push_spelled (codes "enqueue") (λ name words map pushed it given. g.enqueue it given) words command (sym (of_push (p.Map n.Form) words) ∙ h)
verb_spelled verb.Pop words command h = whole_spelled wv.Pop (codes "pop") (λ command none. cc) (λ name map it. g.pop it) words command (sym (of_whole (w.Bare wv.Pop) words) ∙ h)
verb_spelled verb.Dequeue words command h = whole_spelled wv.Pop (codes "dequeue") (λ command none. cc) (λ name map it. g.dequeue it) words command (sym (of_whole (w.Bare wv.Pop) words) ∙ h)
verb_spelled verb.Freeze words command h = whole_spelled wv.Freeze (codes "freeze") (λ command none. cc) (λ name map it. g.freeze it) words command (sym (of_whole (w.Bare wv.Freeze) words) ∙ h)
verb_spelled verb.Pin words command h = pinned_spelled words command (sym (of_pin (pin.Object n.Form) words) ∙ h)

pub map_spelled : (words : List (List ℕ)) (command : MapCommand) → reads m.Verb words ≡ Some command → SpellsMap words command
map_spelled [] command h = cc
map_spelled (word ∷ words) command h =
    gone_on_by (spelled_by verb_word verbs word) after_verb (λ next. reads next words) command (λ v at e.
    subst (λ first. SpellsMap (first ∷ words) command) (sym (spelled_is verb_word verbs word v at)) (verb_spelled v words command e)) h

abbrev pub map_end : MapState → List (List ℕ)
map_end m.Verb = codes "show" ∷ []
map_end (m.Create state) = create_end state
map_end (m.Update state) = update_end state
map_end (m.Key state) = key_end state
map_end (m.Push state) = push_end state
map_end (m.Whole state) = whole_end state
map_end (m.Pin state) = pin_end state

pub map_ends : (state : MapState) → IsSome (reads state (map_end state))
map_ends m.Verb = refl
map_ends (m.Create state) = subst (λ o. IsSome o) (sym (of_create state (create_end state))) (create_ends state)
map_ends (m.Update state) = subst (λ o. IsSome o) (sym (of_update state (update_end state))) (update_ends state)
map_ends (m.Key state) = subst (λ o. IsSome o) (sym (of_key state (key_end state))) (key_ends state)
map_ends (m.Push state) = subst (λ o. IsSome o) (sym (of_push state (push_end state))) (push_ends state)
map_ends (m.Whole state) = subst (λ o. IsSome o) (sym (of_whole state (whole_end state))) (whole_ends state)
map_ends (m.Pin state) = subst (λ o. IsSome o) (sym (of_pin state (pin_end state))) (some_map pinned_map (read pin_step pin_finish state (pin_end state)) (pin_ends state))
