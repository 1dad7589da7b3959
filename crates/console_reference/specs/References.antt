-- What the references of a command come to: each is resolved by a question to the book, in the order of the words.
use Rattle.std.specs.Prelude.{◌≡◌, ⊤, ℕ, Bool, if◌then◌else◌, List, [], ◌∷◌, filter, map as each, Option, Some, None, Result, Ok, Err}
use Rattle.std.specs.Str.{bytes_eq}
use Rattle.bt_mapkind.specs.declared.errno.Errno.TheVariants.{ENOENT, EINVAL}
use Rattle.bt_mapkind.specs.declared.attr.MapAttr.{MapAttr}
use Rattle.bt_mapkind.specs.declared.attr.MapType.{MapType}
use Rattle.bt_mapkind.specs.declared.attr.MapType.TheVariants.{Array, Hash, LpmTrie, Queue, Stack, ArrayOfMaps, ProgArray, HashOfMaps}
use Rattle.bt_journal.specs.Named.{maps_of_name, progs_of_name}
use Rattle.bt_roots.specs.declared.target.Target.{Target}
use Rattle.bt_roots.specs.declared.target.Target.TheVariants.{Map, Prog}
use Rattle.host_state.specs.Act.{attr_if_live, live_map as live_map_of}
use Rattle.host_state.specs.declared.ask.Ask.TheVariants as ask
use Rattle.host_state.specs.declared.ask.AskReply.{AskReply}
use Rattle.host_state.specs.declared.ask.AskReply.TheVariants as told
use Rattle.host_state.specs.declared.shown.MapRow.{MapRow}
use Rattle.host_state.specs.declared.shown.ProgRow.{ProgRow}
use Rattle.journal_model.specs.Book.{PlainBook, asked}
use Rattle.journal_model.specs.Plain.{now}
use Rattle.console_operand.specs.declared.reference.Reference.{Reference}
use Rattle.console_operand.specs.declared.reference.Reference.TheVariants.{Id, Pinned, Named}
use Rattle.console_operand.specs.declared.value.Value.{Value}
use Rattle.console_operand.specs.declared.value.Value.TheVariants.{Data, Object}
use Rattle.console_reference.specs.declared.reference.FoundMap.{FoundMap}
use Rattle.console_reference.specs.declared.value.Item.{Item}
use Rattle.console_reference.specs.declared.value.Item.TheVariants as item
use Rattle.console_answer.specs.declared.fault.Fault.{Fault}
use Rattle.console_answer.specs.declared.fault.Fault.TheVariants.{Errno, NoMemory, Ambiguous}

-- ---- names
-- the only one of these ids: none is told as ENOENT, several as ambiguous
abbrev pub only_one : List ℕ → Result ℕ Fault
only_one [] = Err (Errno ENOENT)
only_one (id ∷ []) = Ok id
only_one (id ∷ other ∷ ids) = Err Ambiguous

-- ---- maps
-- a map, if it has attributes
abbrev pub found : ℕ → Option MapAttr → Result FoundMap Fault
found id None = Err (Errno ENOENT)
found id (Some attr) = Ok (record { id = id; kind = attr.kind })

-- the live map of an id
abbrev pub live_map : PlainBook → ℕ → Result FoundMap Fault
live_map b id = found id (attr_if_live (live_map_of (now b.line) id))

-- the map that is pinned; a program is no map
abbrev pub mapped : Target → Result ℕ Fault
mapped (Map id) = Ok id
mapped (Prog id) = Err (Errno ENOENT)

abbrev pub pinned_map : AskReply → Result ℕ Fault
pinned_map (told.Pinned target) = mapped target
pinned_map (told.Refused errno) = Err (Errno errno)
pinned_map _ = Err (Errno EINVAL)

abbrev pub named_map : List ℕ → AskReply → Result ℕ Fault
named_map name (told.Maps rows) = only_one (maps_of_name name rows)
named_map name (told.Refused errno) = Err (Errno errno)
named_map name _ = Err (Errno EINVAL)

abbrev pub map_at : PlainBook → Result ℕ Fault → Result FoundMap Fault
map_at b (Err fault) = Err fault
map_at b (Ok id) = live_map b id

-- the live map that a reference names
abbrev pub map_named : PlainBook → Reference (List ℕ) → Result FoundMap Fault
map_named b (Id id) = live_map b id
map_named b (Pinned path) = map_at b (pinned_map (asked b (ask.Pinned path)))
map_named b (Named name) = map_at b (named_map name (asked b (ask.Maps None)))

-- it is resolved without a list
abbrev pub IsByIdOrPath : Reference (List ℕ) → Type 0
IsByIdOrPath (Id id) = ⊤
IsByIdOrPath (Pinned path) = ⊤
IsByIdOrPath (Named name) = ⊥

abbrev pub id_of : Result FoundMap Fault → Result ℕ Fault
id_of (Err fault) = Err fault
id_of (Ok found) = Ok found.id

-- ---- programs
-- the id, if the book shows such a program
abbrev pub known_prog : ℕ → AskReply → Result ℕ Fault
known_prog id (told.Progs rows) = Ok id
known_prog id (told.Refused errno) = Err (Errno errno)
known_prog id _ = Err (Errno EINVAL)

-- the live program of an id
abbrev pub live_prog : PlainBook → ℕ → Result ℕ Fault
live_prog b id = known_prog id (asked b (ask.Progs (Some id)))

-- the program that is pinned; a map is no program
abbrev pub loaded_there : Target → Result ℕ Fault
loaded_there (Prog id) = Ok id
loaded_there (Map id) = Err (Errno ENOENT)

abbrev pub pinned_prog : AskReply → Result ℕ Fault
pinned_prog (told.Pinned target) = loaded_there target
pinned_prog (told.Refused errno) = Err (Errno errno)
pinned_prog _ = Err (Errno EINVAL)

abbrev pub named_prog : List ℕ → AskReply → Result ℕ Fault
named_prog name (told.Progs rows) = only_one (progs_of_name name rows)
named_prog name (told.Refused errno) = Err (Errno errno)
named_prog name _ = Err (Errno EINVAL)

abbrev pub prog_at : PlainBook → Result ℕ Fault → Result ℕ Fault
prog_at b (Err fault) = Err fault
prog_at b (Ok id) = live_prog b id

-- the live program that a reference names
abbrev pub prog_named : PlainBook → Reference (List ℕ) → Result ℕ Fault
prog_named b (Id id) = live_prog b id
prog_named b (Pinned path) = prog_at b (pinned_prog (asked b (ask.Pinned path)))
prog_named b (Named name) = prog_at b (named_prog name (asked b (ask.Progs None)))

-- ---- templates
abbrev pub template_of : Result FoundMap Fault → Result (Option ℕ) Fault
template_of (Err fault) = Err fault
template_of (Ok found) = Ok (Some found.id)

abbrev pub template_named : PlainBook → Option (Reference (List ℕ)) → Result (Option ℕ) Fault
template_named b None = Ok None
template_named b (Some map) = template_of (map_named b map)

-- ---- values
-- the id of the object that a value names, in a map of this type: a map for one of maps, a program for one of programs
abbrev pub object_named : PlainBook → MapType → Reference (List ℕ) → Result ℕ Fault
object_named b ArrayOfMaps object = id_of (map_named b object)
object_named b HashOfMaps object = id_of (map_named b object)
object_named b ProgArray object = prog_named b object
object_named b Array object = Err (Errno EINVAL)
object_named b Hash object = Err (Errno EINVAL)
object_named b LpmTrie object = Err (Errno EINVAL)
object_named b Queue object = Err (Errno EINVAL)
object_named b Stack object = Err (Errno EINVAL)

abbrev pub item_of : Result ℕ Fault → Result Item Fault
item_of (Err fault) = Err fault
item_of (Ok id) = Ok (item.Id id)

abbrev pub item_named : PlainBook → MapType → Value (List ℕ) → Result Item Fault
item_named b kind (Data bytes) = Ok (item.Bytes bytes)
item_named b kind (Object object) = item_of (object_named b kind object)

-- ---- lack of memory
-- an allocation failed, or this is told
abbrev pub ToldUnlessRefused : {A : Type 0} → Result A Fault → Result A Fault → Type 0
ToldUnlessRefused does result = (refused : Bool) × (result ≡ (if refused then Err NoMemory else does))
