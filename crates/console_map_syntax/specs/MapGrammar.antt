-- The commands on maps (bpftool-map(8)), as their words spell them.
use Rattle.std.specs.Prelude.{◌≡◌, ℕ, Bool, false, List, [], ◌∷◌, ◌++◌, Option, Some, None, is_some, unwrap_or, codes}
use Rattle.std.specs.Option.{option_map, option_and_then}
use Rattle.bt_mapkind.specs.declared.attr.MapAttr.{MapAttr}
use Rattle.bt_mapkind.specs.declared.attr.MapType.{MapType}
use Rattle.bt_mapkind.specs.declared.attr.MapType.TheVariants as type
use Rattle.console_operand.specs.Word.{spelled_by}
use Rattle.console_operand.specs.Number.{number_of}
use Rattle.console_operand.specs.Data.{IsData}
use Rattle.console_operand.specs.Reference.{IsReference}
use Rattle.console_operand.specs.Value.{IsValue}
use Rattle.console_operand.specs.declared.reference.Reference.{Reference}
use Rattle.console_operand.specs.declared.value.Value.{Value}
use Rattle.console_map_syntax.specs.declared.command.MapCommand.{MapCommand}
use Rattle.console_map_syntax.specs.declared.command.MapCommand.TheVariants.{Show, Create, Dump, Update, Lookup, GetNext, Delete, Peek, Push, Pop, Freeze, Pin}
use Rattle.console_map_syntax.specs.declared.command.UpdateFlag.{UpdateFlag}
use Rattle.console_map_syntax.specs.declared.command.UpdateFlag.TheVariants as fl
use Rattle.console_map_syntax.specs.declared.create.Setting.{Setting}
use Rattle.console_map_syntax.specs.declared.create.Setting.TheVariants as s
use Rattle.console_map_syntax.specs.declared.create.Creating.{Creating}
use Rattle.console_map_syntax.specs.declared.update.Updating.{Updating}

abbrev pub type_word : MapType → List ℕ
type_word type.Array = codes "array"
type_word type.Hash = codes "hash"
type_word type.LpmTrie = codes "lpm_trie"
type_word type.Queue = codes "queue"
type_word type.Stack = codes "stack"
type_word type.ArrayOfMaps = codes "array_of_maps"
type_word type.ProgArray = codes "prog_array"
type_word type.HashOfMaps = codes "hash_of_maps"

abbrev pub types : List MapType
types = type.Array ∷ type.Hash ∷ type.LpmTrie ∷ type.Queue ∷ type.Stack ∷ type.ArrayOfMaps ∷ type.ProgArray ∷ type.HashOfMaps ∷ []

-- the type that a word names
abbrev pub type_of : List ℕ → Option MapType
type_of word = spelled_by type_word types word

-- the word in front of a setting of a new map
abbrev pub setting_word : Setting → List ℕ
setting_word s.Type = codes "type"
setting_word s.Key = codes "key"
setting_word s.Value = codes "value"
setting_word s.Entries = codes "entries"
setting_word s.Name = codes "name"
setting_word s.Flags = codes "flags"

abbrev pub is_set : Creating → Setting → Bool
is_set u s.Type = is_some u.kind
is_set u s.Key = is_some u.key_size
is_set u s.Value = is_some u.value_size
is_set u s.Entries = is_some u.max_entries
is_set u s.Name = is_some u.name
is_set u s.Flags = is_some u.flags

-- a setting of the value that a word spells
abbrev pub set_to : Creating → Setting → List ℕ → Option Creating
set_to u s.Type word = option_map (λ kind. record u { kind = Some kind }) (type_of word)
set_to u s.Key word = option_map (λ size. record u { key_size = Some size }) (number_of word)
set_to u s.Value word = option_map (λ size. record u { value_size = Some size }) (number_of word)
set_to u s.Entries word = option_map (λ count. record u { max_entries = Some count }) (number_of word)
set_to u s.Name word = Some (record u { name = Some word })
set_to u s.Flags word = option_map (λ flags. record u { flags = Some flags }) (number_of word)

abbrev pub with_inner : Creating → Reference (List ℕ) → Creating
with_inner u map = record u { inner_map = Some map }

-- no setting yet
abbrev pub unset : List ℕ → Creating
unset path = record { path = path; kind = None; key_size = None; value_size = None; max_entries = None; name = None; flags = None; inner_map = None }

-- `type`, `value` and `entries` are required; a missing `key` or `flags` is 0
abbrev pub attr_of : Creating → Option MapAttr
attr_of u =
    option_and_then (λ kind. option_and_then (λ value. option_map (λ entries.
    record { kind = kind; key_size = unwrap_or u.key_size 0; value_size = value; max_entries = entries; flags = unwrap_or u.flags 0 })
    u.max_entries) u.value_size) u.kind

-- and so is `name`
abbrev pub created : Creating → Option MapCommand
created u = option_and_then (λ attr. option_map (λ name. Create u.path attr name u.inner_map) u.name) (attr_of u)

-- settings in any order, each at most once, lead from the first state to the second
pub data Settings : List (List ℕ) → Creating → Creating → Type 0 where
  none : {u : Creating} → Settings [] u u
  setting : {word : List ℕ} {rest : List (List ℕ)} (it : Setting) {u v w : Creating} → is_set u it ≡ false → set_to u it word ≡ Some v →
      Settings rest v w → Settings (setting_word it ∷ word ∷ rest) u w
  inner : {name rest : List (List ℕ)} {map : Reference (List ℕ)} {u v : Creating} → u.inner_map ≡ None → IsReference name map →
      Settings rest (with_inner u map) v → Settings (codes "inner_map" ∷ (name ++ rest)) u v

abbrev pub flag_word : UpdateFlag → List ℕ
flag_word fl.Any = codes "any"
flag_word fl.Exist = codes "exist"
flag_word fl.NoExist = codes "noexist"

abbrev pub with_key : Updating → List ℕ → Updating
with_key u bytes = record u { key = Some bytes }

abbrev pub with_value : Updating → Value (List ℕ) → Updating
with_value u it = record u { value = Some it }

abbrev pub with_flag : Updating → UpdateFlag → Updating
with_flag u it = record u { flag = Some it }

-- nothing is given yet
abbrev pub ungiven : Reference (List ℕ) → Updating
ungiven map = record { map = map; key = None; value = None; flag = None }

-- `value` is required; the flag is `any` if none is given
abbrev pub updated : Updating → Option MapCommand
updated u = option_map (λ value. Update u.map u.key value (unwrap_or u.flag fl.Any)) u.value

-- key, value and flag in any order, each at most once, lead from the first state to the second
pub data Gives : List (List ℕ) → Updating → Updating → Type 0 where
  none : {u : Updating} → Gives [] u u
  key : {words rest : List (List ℕ)} {bytes : List ℕ} {u v : Updating} → u.key ≡ None → IsData words bytes →
      Gives rest (with_key u bytes) v → Gives (codes "key" ∷ (words ++ rest)) u v
  value : {words rest : List (List ℕ)} {it : Value (List ℕ)} {u v : Updating} → u.value ≡ None → IsValue words it →
      Gives rest (with_value u it) v → Gives (codes "value" ∷ (words ++ rest)) u v
  flag : {rest : List (List ℕ)} (it : UpdateFlag) {u v : Updating} → u.flag ≡ None → Gives rest (with_flag u it) v →
      Gives (flag_word it ∷ rest) u v

-- the words after `map` spell this command
pub data SpellsMap : List (List ℕ) → MapCommand → Type 0 where
  show_all : SpellsMap (codes "show" ∷ []) (Show None)
  list_all : SpellsMap (codes "list" ∷ []) (Show None)
  show : {name : List (List ℕ)} {map : Reference (List ℕ)} → IsReference name map → SpellsMap (codes "show" ∷ name) (Show (Some map))
  list : {name : List (List ℕ)} {map : Reference (List ℕ)} → IsReference name map → SpellsMap (codes "list" ∷ name) (Show (Some map))
  create : {path : List ℕ} {words : List (List ℕ)} {u : Creating} {command : MapCommand} →
      Settings words (unset path) u → created u ≡ Some command → SpellsMap (codes "create" ∷ path ∷ words) command
  dump : {name : List (List ℕ)} {map : Reference (List ℕ)} → IsReference name map → SpellsMap (codes "dump" ∷ name) (Dump map)
  update : {name words : List (List ℕ)} {map : Reference (List ℕ)} {u : Updating} {command : MapCommand} →
      IsReference name map → Gives words (ungiven map) u → updated u ≡ Some command → SpellsMap (codes "update" ∷ (name ++ words)) command
  lookup : {name : List (List ℕ)} {map : Reference (List ℕ)} → IsReference name map → SpellsMap (codes "lookup" ∷ name) (Lookup map None)
  lookup_key : {name words : List (List ℕ)} {map : Reference (List ℕ)} {bytes : List ℕ} → IsReference name map → IsData words bytes →
      SpellsMap (codes "lookup" ∷ (name ++ codes "key" ∷ words)) (Lookup map (Some bytes))
  getnext : {name : List (List ℕ)} {map : Reference (List ℕ)} → IsReference name map → SpellsMap (codes "getnext" ∷ name) (GetNext map None)
  getnext_key : {name words : List (List ℕ)} {map : Reference (List ℕ)} {bytes : List ℕ} → IsReference name map → IsData words bytes →
      SpellsMap (codes "getnext" ∷ (name ++ codes "key" ∷ words)) (GetNext map (Some bytes))
  delete : {name words : List (List ℕ)} {map : Reference (List ℕ)} {bytes : List ℕ} → IsReference name map → IsData words bytes →
      SpellsMap (codes "delete" ∷ (name ++ codes "key" ∷ words)) (Delete map bytes)
  peek : {name : List (List ℕ)} {map : Reference (List ℕ)} → IsReference name map → SpellsMap (codes "peek" ∷ name) (Peek map)
  push : {name words : List (List ℕ)} {map : Reference (List ℕ)} {it : Value (List ℕ)} → IsReference name map → IsValue words it →
      SpellsMap (codes "push" ∷ (name ++ codes "value" ∷ words)) (Push map it)
  enqueue : {name words : List (List ℕ)} {map : Reference (List ℕ)} {it : Value (List ℕ)} → IsReference name map → IsValue words it →
      SpellsMap (codes "enqueue" ∷ (name ++ codes "value" ∷ words)) (Push map it)
  pop : {name : List (List ℕ)} {map : Reference (List ℕ)} → IsReference name map → SpellsMap (codes "pop" ∷ name) (Pop map)
  dequeue : {name : List (List ℕ)} {map : Reference (List ℕ)} → IsReference name map → SpellsMap (codes "dequeue" ∷ name) (Pop map)
  freeze : {name : List (List ℕ)} {map : Reference (List ℕ)} → IsReference name map → SpellsMap (codes "freeze" ∷ name) (Freeze map)
  pin : {name : List (List ℕ)} {map : Reference (List ℕ)} {path : List ℕ} → IsReference name map → SpellsMap (codes "pin" ∷ (name ++ path ∷ [])) (Pin map path)
