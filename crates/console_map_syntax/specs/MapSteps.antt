-- The words of a command on maps, read one at a time.
use Rattle.std.specs.Prelude.{ℕ, List, [], ◌∷◌, Option, None, codes}
use Rattle.std.specs.Option.{option_map}
use Rattle.console_operand.specs.Word.{spelled_by}
use Rattle.console_map_syntax.specs.CreateSteps.{create_step, create_finish}
use Rattle.console_map_syntax.specs.UpdateSteps.{update_step, update_finish}
use Rattle.console_map_syntax.specs.KeySteps.{key_step, key_finish}
use Rattle.console_map_syntax.specs.PushSteps.{push_step, push_finish}
use Rattle.console_map_syntax.specs.WholeSteps.{whole_step, whole_finish}
use Rattle.console_operand.specs.PinSteps.{pin_step, pin_finish}
use Rattle.console_operand.specs.declared.reference.Reference.{Reference}
use Rattle.console_operand.specs.declared.reference.Naming.TheVariants.{Form}
use Rattle.console_operand.specs.declared.pin.PinState.TheVariants as pin
use Rattle.console_map_syntax.specs.declared.command.MapCommand.{MapCommand}
use Rattle.console_map_syntax.specs.declared.command.MapCommand.TheVariants as command
use Rattle.console_map_syntax.specs.declared.create.CreateState.TheVariants as create
use Rattle.console_map_syntax.specs.declared.update.UpdateState.TheVariants as update
use Rattle.console_map_syntax.specs.declared.key.KeyVerb.{KeyVerb}
use Rattle.console_map_syntax.specs.declared.key.KeyVerb.TheVariants as key_verb
use Rattle.console_map_syntax.specs.declared.key.KeyState.TheVariants as key
use Rattle.console_map_syntax.specs.declared.push.PushState.TheVariants as push
use Rattle.console_map_syntax.specs.declared.whole.WholeVerb.{WholeVerb}
use Rattle.console_map_syntax.specs.declared.whole.WholeVerb.TheVariants as whole_verb
use Rattle.console_map_syntax.specs.declared.whole.WholeState.TheVariants as whole
use Rattle.console_map_syntax.specs.declared.state.MapVerb.{MapVerb}
use Rattle.console_map_syntax.specs.declared.state.MapVerb.TheVariants as verb
use Rattle.console_map_syntax.specs.declared.state.MapState.{MapState}
use Rattle.console_map_syntax.specs.declared.state.MapState.TheVariants as m

abbrev pub verb_word : MapVerb → List ℕ
verb_word verb.Show = codes "show"
verb_word verb.List = codes "list"
verb_word verb.Create = codes "create"
verb_word verb.Dump = codes "dump"
verb_word verb.Update = codes "update"
verb_word verb.Lookup = codes "lookup"
verb_word verb.GetNext = codes "getnext"
verb_word verb.Delete = codes "delete"
verb_word verb.Peek = codes "peek"
verb_word verb.Push = codes "push"
verb_word verb.Enqueue = codes "enqueue"
verb_word verb.Pop = codes "pop"
verb_word verb.Dequeue = codes "dequeue"
verb_word verb.Freeze = codes "freeze"
verb_word verb.Pin = codes "pin"

abbrev pub verbs : List MapVerb
verbs =
    verb.Update ∷ verb.Lookup ∷ verb.Delete ∷ verb.Push ∷ verb.Enqueue ∷ verb.Pop ∷ verb.Dequeue ∷ verb.Peek ∷ verb.GetNext ∷
    verb.Dump ∷ verb.Show ∷ verb.List ∷ verb.Create ∷ verb.Freeze ∷ verb.Pin ∷ []

abbrev pub on_key : KeyVerb → MapState
on_key v = m.Key (key.Map v Form)

abbrev pub on_map : WholeVerb → MapState
on_map v = m.Whole (whole.Bare v)

abbrev pub after_verb : MapVerb → MapState
after_verb verb.Show = on_map whole_verb.Show
after_verb verb.List = on_map whole_verb.Show
after_verb verb.Create = m.Create create.Path
after_verb verb.Dump = on_map whole_verb.Dump
after_verb verb.Update = m.Update (update.Map Form)
after_verb verb.Lookup = on_key key_verb.Lookup
after_verb verb.GetNext = on_key key_verb.GetNext
after_verb verb.Delete = on_key key_verb.Delete
after_verb verb.Peek = on_map whole_verb.Peek
after_verb verb.Push = m.Push (push.Map Form)
after_verb verb.Enqueue = m.Push (push.Map Form)
after_verb verb.Pop = on_map whole_verb.Pop
after_verb verb.Dequeue = on_map whole_verb.Pop
after_verb verb.Freeze = on_map whole_verb.Freeze
after_verb verb.Pin = m.Pin (pin.Object Form)

abbrev pub map_step : MapState → List ℕ → Option MapState
map_step m.Verb word = option_map after_verb (spelled_by verb_word verbs word)
map_step (m.Create state) word = option_map m.Create (create_step state word)
map_step (m.Update state) word = option_map m.Update (update_step state word)
map_step (m.Key state) word = option_map m.Key (key_step state word)
map_step (m.Push state) word = option_map m.Push (push_step state word)
map_step (m.Whole state) word = option_map m.Whole (whole_step state word)
map_step (m.Pin state) word = option_map m.Pin (pin_step state word)

abbrev pub pinned_map : Reference (List ℕ) × List ℕ → MapCommand
pinned_map it = command.Pin it.0 it.1

abbrev pub map_finish : MapState → Option MapCommand
map_finish m.Verb = None
map_finish (m.Create state) = create_finish state
map_finish (m.Update state) = update_finish state
map_finish (m.Key state) = key_finish state
map_finish (m.Push state) = push_finish state
map_finish (m.Whole state) = whole_finish state
map_finish (m.Pin state) = option_map pinned_map (pin_finish state)
