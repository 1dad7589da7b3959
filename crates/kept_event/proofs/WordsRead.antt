-- The word of each verb and of each type spells it.
use Rattle.std.proofs.Common.{◌≡◌, Some, refl}
use Rattle.bt_mapkind.specs.declared.attr.MapType.{MapType}
use Rattle.bt_mapkind.specs.declared.attr.MapType.TheVariants as type
use Rattle.kept_event.specs.declared.verb.Verb.{Verb}
use Rattle.kept_event.specs.declared.verb.Verb.TheVariants.{Update, Delete, Push, Pop, Store, Atomic, SetLink, Create, Load, Link, Freeze, Pin, Unpin, Attach, Detach, Mark, Undo, Redo, Without, Forget}
use Rattle.kept_event.specs.Words.{verb_word, verb_of, type_word, type_of}

pub verb_back : (v : Verb) → verb_of (verb_word v) ≡ Some v
verb_back Update = refl
verb_back Delete = refl
verb_back Push = refl
verb_back Pop = refl
verb_back Store = refl
verb_back Atomic = refl
verb_back SetLink = refl
verb_back Create = refl
verb_back Load = refl
verb_back Link = refl
verb_back Freeze = refl
verb_back Pin = refl
verb_back Unpin = refl
verb_back Attach = refl
verb_back Detach = refl
verb_back Mark = refl
verb_back Undo = refl
verb_back Redo = refl
verb_back Without = refl
verb_back Forget = refl

pub type_back : (kind : MapType) → type_of (type_word kind) ≡ Some kind
type_back type.Array = refl
type_back type.Hash = refl
type_back type.LpmTrie = refl
type_back type.Queue = refl
type_back type.Stack = refl
type_back type.ArrayOfMaps = refl
type_back type.ProgArray = refl
type_back type.HashOfMaps = refl
