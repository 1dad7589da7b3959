-- What may be wrong with a name and with the path of a pin.
use Rattle.std.specs.Prelude.{◌≡◌, ℕ, ◌<◌, false, List, length, codes, nat_eq}
use Rattle.std.specs.List.{starts_with}
use Rattle.host_words.specs.Spelling.{is_between, is_name, is_path}
use Rattle.console_hint.specs.declared.spelling.NameFault.{NameFault}
use Rattle.console_hint.specs.declared.spelling.NameFault.TheVariants as name
use Rattle.console_hint.specs.declared.spelling.PathFault.{PathFault}
use Rattle.console_hint.specs.declared.spelling.PathFault.TheVariants as path

abbrev pub IsNameFault : List ℕ → NameFault → Type 0
IsNameFault word (name.TooLong given) = (given ≡ length word) × (15 < given)
IsNameFault word name.Letters = is_name word ≡ false

abbrev pub IsPathFault : List ℕ → PathFault → Type 0
IsPathFault word path.NoSlash = starts_with nat_eq word (codes "/") ≡ false
IsPathFault word (path.Length given) = (given ≡ length word) × (is_between 2 255 given ≡ false)
IsPathFault word path.Letters = is_path word ≡ false
