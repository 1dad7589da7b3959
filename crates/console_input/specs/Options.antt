-- The options of a book, which stand before the first word.
use Rattle.std.specs.Prelude.{ℕ, is_some, if◌then◌else◌, List, [], ◌∷◌, Option, Some, None, codes, string_bytes}
use Rattle.std.specs.Option.{option_map, option_and_then, option_map_or}
use Rattle.std.specs.Vec.Iter.{into_iter_items}
use Rattle.std.specs.declared.alloc.Global.{Global}
use Rattle.std.specs.declared.string.String.{String}
use Rattle.console_operand.specs.Word.{spelled_by}
use Rattle.console_input.specs.Live.{number_between}
use Rattle.console_input.specs.declared.options.BookOption.{BookOption}
use Rattle.console_input.specs.declared.options.BookOption.TheVariants.{File, Wait}
use Rattle.console_input.specs.declared.options.BookOptions.{BookOptions}
use Rattle.console_input.specs.declared.options.Opted.{Opted as Given}

-- the word that names an option
abbrev pub option_word : BookOption → List ℕ
option_word File = codes "-b"
option_word Wait = codes "-w"

abbrev pub book_options : List BookOption
book_options = File ∷ Wait ∷ []

-- the option that a word names
abbrev pub option_of : String Global → Option BookOption
option_of word = spelled_by option_word book_options (string_bytes word)

-- the seconds that a word spells, up to a day
abbrev pub seconds_of : String Global → Option ℕ
seconds_of word = number_between 0 86_400 (string_bytes word)

abbrev pub no_options : BookOptions
no_options = record { file = None; wait = None }

-- with an option of the value that a word spells; each is given once at most
abbrev pub with_option : BookOptions → BookOption → String Global → Option BookOptions
with_option given File word = if is_some given.file then None else Some (record given { file = Some word })
with_option given Wait word = if is_some given.wait then None else option_map (λ seconds. record given { wait = Some seconds }) (seconds_of word)

-- options, the first word after them, and the words after that
pub record Parts : Type 0 where
  pub options : BookOptions
  pub verb : String Global
  pub words : List (String Global)

abbrev pub parts_of : BookOptions → String Global → List (String Global) → Parts
parts_of options verb words = record { options = options; verb = verb; words = words }

abbrev pub parts : Given → Parts
parts given = parts_of given.options given.verb (into_iter_items given.words)

-- a word that is an option has its value after it, and then another word
abbrev pub options_in : BookOptions → String Global → List (String Global) → Option Parts
options_in given verb [] = option_map_or (λ option. None) (option_of verb) (Some (parts_of given verb []))
options_in given verb (value ∷ []) = option_map_or (λ option. None) (option_of verb) (Some (parts_of given verb (value ∷ [])))
options_in given verb (value ∷ next ∷ words) =
    option_map_or (λ option. option_and_then (λ more. options_in more next words) (with_option given option value))
    (option_of verb) (Some (parts_of given verb (value ∷ next ∷ words)))
