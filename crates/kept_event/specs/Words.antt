-- The words of the columns `verb` and `type`.
use Rattle.std.specs.Prelude.{ℕ, List, [], ◌∷◌, Option, Some, None, codes, if◌then◌else◌}
use Rattle.std.specs.Option.{option_or}
use Rattle.std.specs.Str.{bytes_eq}
use Rattle.bt_mapkind.specs.declared.attr.MapType.{MapType}
use Rattle.bt_mapkind.specs.declared.attr.MapType.TheVariants as type
use Rattle.kept_event.specs.declared.verb.Verb.{Verb}
use Rattle.kept_event.specs.declared.verb.Verb.TheVariants.{Update, Delete, Push, Pop, Store, Atomic, SetLink, Create, Load, Link, Freeze, Pin, Unpin, Attach, Detach, Mark, Undo, Redo, Without, Forget}

-- the one of these things that a word spells
abbrev pub spelled_by : {A : Type 0} → (A → List ℕ) → List A → List ℕ → Option A
spelled_by spelling [] word = None
spelled_by spelling (thing ∷ things) word =
    if bytes_eq word (spelling thing) then Some thing else spelled_by spelling things word

abbrev pub verb_word : Verb → List ℕ
verb_word Update = codes "update"
verb_word Delete = codes "delete"
verb_word Push = codes "push"
verb_word Pop = codes "pop"
verb_word Store = codes "store"
verb_word Atomic = codes "atomic"
verb_word SetLink = codes "set_link"
verb_word Create = codes "create"
verb_word Load = codes "load"
verb_word Link = codes "link"
verb_word Freeze = codes "freeze"
verb_word Pin = codes "pin"
verb_word Unpin = codes "unpin"
verb_word Attach = codes "attach"
verb_word Detach = codes "detach"
verb_word Mark = codes "mark"
verb_word Undo = codes "undo"
verb_word Redo = codes "redo"
verb_word Without = codes "without"
verb_word Forget = codes "forget"

abbrev pub operations : List Verb
operations = Update ∷ Delete ∷ Push ∷ Pop ∷ Store ∷ Atomic ∷ SetLink ∷ []

-- other changes, and moves of the journal
abbrev pub commands : List Verb
commands = Create ∷ Load ∷ Link ∷ Freeze ∷ Pin ∷ Unpin ∷ Attach ∷ Detach ∷ Mark ∷ Undo ∷ Redo ∷ Without ∷ Forget ∷ []

-- the verb that a word spells
abbrev pub verb_of : List ℕ → Option Verb
verb_of word = option_or (spelled_by verb_word operations word) (spelled_by verb_word commands word)

abbrev pub type_word : MapType → List ℕ
type_word type.Array = codes "array"
type_word type.Hash = codes "hash"
type_word type.LpmTrie = codes "lpm_trie"
type_word type.Queue = codes "queue"
type_word type.Stack = codes "stack"
type_word type.ArrayOfMaps = codes "array_of_maps"
type_word type.ProgArray = codes "prog_array"
type_word type.HashOfMaps = codes "hash_of_maps"

abbrev pub types : List MapType
types = type.Array ∷ type.Hash ∷ type.LpmTrie ∷ type.Queue ∷ type.Stack ∷ type.ArrayOfMaps ∷ type.ProgArray ∷ type.HashOfMaps ∷ []

-- the type that a word spells
abbrev pub type_of : List ℕ → Option MapType
type_of word = spelled_by type_word types word
