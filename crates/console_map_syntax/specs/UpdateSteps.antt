-- The words of `map update`, read one at a time.
use Rattle.std.specs.Prelude.{ℕ, Bool, true, false, if◌then◌else◌, List, [], ◌∷◌, Option, Some, None, is_some, codes}
use Rattle.std.specs.Option.{option_map, option_and_then}
use Rattle.console_operand.specs.Word.{spelled_by}
use Rattle.console_operand.specs.DataSteps.{no_data, data_step, data_finish}
use Rattle.console_operand.specs.ReferenceSteps.{naming_step}
use Rattle.console_operand.specs.ValueSteps.{value_step, value_finish}
use Rattle.console_map_syntax.specs.MapGrammar.{flag_word, with_key, with_value, with_flag, ungiven, updated}
use Rattle.console_operand.specs.declared.reference.Named.{Named}
use Rattle.console_operand.specs.declared.reference.Named.TheVariants as named
use Rattle.console_operand.specs.declared.value.ValueState.TheVariants as v
use Rattle.console_operand.specs.declared.reference.Form.TheVariants as form
use Rattle.console_operand.specs.declared.reference.Naming.TheVariants as n
use Rattle.console_map_syntax.specs.declared.command.MapCommand.{MapCommand}
use Rattle.console_map_syntax.specs.declared.command.UpdateFlag.TheVariants as flag
use Rattle.console_map_syntax.specs.declared.update.Updating.{Updating}
use Rattle.console_map_syntax.specs.declared.update.UpdateWord.{UpdateWord}
use Rattle.console_map_syntax.specs.declared.update.UpdateWord.TheVariants as word
use Rattle.console_map_syntax.specs.declared.update.UpdatePart.{UpdatePart}
use Rattle.console_map_syntax.specs.declared.update.UpdatePart.TheVariants as part
use Rattle.console_map_syntax.specs.declared.update.Giving.{Giving}
use Rattle.console_map_syntax.specs.declared.update.UpdateState.{UpdateState}
use Rattle.console_map_syntax.specs.declared.update.UpdateState.TheVariants as update

abbrev pub update_word : UpdateWord → List ℕ
update_word word.Key = codes "key"
update_word word.Value = codes "value"
update_word (word.Flag it) = flag_word it

abbrev pub update_words : List UpdateWord
update_words = word.Key ∷ word.Value ∷ word.Flag flag.Any ∷ word.Flag flag.Exist ∷ word.Flag flag.NoExist ∷ []

-- what is given, and the part after it that is being read
abbrev pub behind : Updating → UpdatePart → Giving
behind u p = record { given = u; part = p }

abbrev pub at : Updating → UpdatePart → UpdateState
at u p = update.Given (behind u p)

-- key, value and flag may come once each
abbrev pub given_step : Updating → UpdateWord → Option UpdateState
given_step u word.Key = if is_some u.key then None else Some (at u (part.Key no_data))
given_step u word.Value = if is_some u.value then None else Some (at u (part.Value v.First))
given_step u (word.Flag it) = if is_some u.flag then None else Some (at (with_flag u it) part.Nothing)

abbrev pub fields_step : Updating → List ℕ → Option UpdateState
fields_step u w = option_and_then (given_step u) (spelled_by update_word update_words w)

abbrev pub named_update : Named → UpdateState
named_update (named.Going naming) = update.Map naming
named_update (named.Found map) = at (ungiven map) part.Nothing

-- what a word makes of a key or a value of which it is a part
abbrev pub part_step : UpdatePart → List ℕ → Option UpdatePart
part_step part.Nothing w = None
part_step (part.Key d) w = option_map part.Key (data_step d w)
part_step (part.Value s) w = option_map part.Value (value_step s w)

-- a path or a name comes next, which any word may be
abbrev pub takes_any_word : UpdatePart → Bool
takes_any_word (part.Value (v.Object (n.Object form.Pinned))) = true
takes_any_word (part.Value (v.Object (n.Object form.Name))) = true
takes_any_word p = false

-- what is given where the key or the value ends
abbrev pub ended : Updating → UpdatePart → Option Updating
ended u part.Nothing = Some u
ended u (part.Key d) = option_map (with_key u) (data_finish d)
ended u (part.Value s) = option_map (with_value u) (value_finish s)

abbrev pub closed : Giving → Option Updating
closed g = ended g.given g.part

-- what a word makes of it after that end
abbrev pub turned : Giving → UpdateWord → Option UpdateState
turned g it = option_and_then (λ u. given_step u it) (closed g)

abbrev pub turn_step : Giving → List ℕ → Option UpdateState
turn_step g w = option_and_then (λ u. fields_step u w) (closed g)

-- a key or a value goes on as long as it can
abbrev pub going_step : Giving → List ℕ → Option UpdatePart → Option UpdateState
going_step g w (Some more) = Some (at g.given more)
going_step g w None = turn_step g w

abbrev pub update_step : UpdateState → List ℕ → Option UpdateState
update_step (update.Map naming) w = option_map named_update (naming_step naming w)
update_step (update.Given g) w = going_step g w (part_step g.part w)

abbrev pub update_finish : UpdateState → Option MapCommand
update_finish (update.Map naming) = None
update_finish (update.Given g) = option_and_then updated (closed g)
