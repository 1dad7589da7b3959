-- The words of `map create`, read one at a time.
use Rattle.std.specs.Prelude.{ℕ, if◌then◌else◌, List, [], ◌∷◌, Option, Some, None, is_some, codes}
use Rattle.std.specs.Option.{option_map, option_and_then}
use Rattle.console_operand.specs.Word.{spelled_by}
use Rattle.console_operand.specs.ReferenceSteps.{naming_step}
use Rattle.console_map_syntax.specs.MapGrammar.{setting_word, is_set, set_to, with_inner, unset, created}
use Rattle.console_operand.specs.declared.reference.Naming.TheVariants.{Form}
use Rattle.console_operand.specs.declared.reference.Named.{Named}
use Rattle.console_operand.specs.declared.reference.Named.TheVariants as named
use Rattle.console_map_syntax.specs.declared.command.MapCommand.{MapCommand}
use Rattle.console_map_syntax.specs.declared.create.Setting.TheVariants as s
use Rattle.console_map_syntax.specs.declared.create.CreateWord.{CreateWord}
use Rattle.console_map_syntax.specs.declared.create.CreateWord.TheVariants as word
use Rattle.console_map_syntax.specs.declared.create.Creating.{Creating}
use Rattle.console_map_syntax.specs.declared.create.CreateState.{CreateState}
use Rattle.console_map_syntax.specs.declared.create.CreateState.TheVariants as create

abbrev pub create_word : CreateWord → List ℕ
create_word (word.Setting it) = setting_word it
create_word word.InnerMap = codes "inner_map"

abbrev pub create_words : List CreateWord
create_words =
    word.Setting s.Type ∷ word.Setting s.Key ∷ word.Setting s.Value ∷ word.Setting s.Entries ∷ word.Setting s.Name ∷ word.Setting s.Flags ∷
    word.InnerMap ∷ []

-- each may come once
abbrev pub setting_step : Creating → CreateWord → Option CreateState
setting_step u (word.Setting it) = if is_set u it then None else Some (create.Value u it)
setting_step u word.InnerMap = if is_some u.inner_map then None else Some (create.InnerMap u Form)

abbrev pub named_inner : Creating → Named → CreateState
named_inner u (named.Going n) = create.InnerMap u n
named_inner u (named.Found map) = create.Settings (with_inner u map)

abbrev pub create_step : CreateState → List ℕ → Option CreateState
create_step create.Path w = Some (create.Settings (unset w))
create_step (create.Settings u) w = option_and_then (setting_step u) (spelled_by create_word create_words w)
create_step (create.Value u it) w = option_map create.Settings (set_to u it w)
create_step (create.InnerMap u n) w = option_map (named_inner u) (naming_step n w)

abbrev pub create_finish : CreateState → Option MapCommand
create_finish create.Path = None
create_finish (create.Settings u) = created u
create_finish (create.Value u it) = None
create_finish (create.InnerMap u n) = None
