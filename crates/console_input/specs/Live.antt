-- What the words after `live` ask.
use Rattle.std.specs.Prelude.{◌≡◌, ℕ, ◌≤◌, Bool, true, ◌||◌, if◌then◌else◌, List, [], ◌∷◌, Option, Some, None, is_some, unwrap_or, IfSome, codes, string_bytes}
use Rattle.std.specs.Option.{option_map, option_and_then, option_map_or}
use Rattle.std.specs.declared.alloc.Global.{Global}
use Rattle.std.specs.declared.string.String.{String}
use Rattle.host_words.specs.Spelling.{is_name}
use Rattle.console_operand.specs.Number.{is_between, number_of}
use Rattle.console_operand.specs.Word.{spelled_by}
use Rattle.console_input.specs.declared.live.Given.{Given}
use Rattle.console_input.specs.declared.live.Live.{Live}
use Rattle.console_input.specs.declared.live.LiveOption.{LiveOption}
use Rattle.console_input.specs.declared.live.LiveOption.TheVariants.{Workers, Rate, Repeat, Journal, Device}
use Rattle.console_input.specs.declared.live.LiveOptions.{LiveOptions}

-- the word that names an option
abbrev pub option_word : LiveOption → List ℕ
option_word Workers = codes "--workers"
option_word Rate = codes "--rate"
option_word Repeat = codes "--repeat"
option_word Journal = codes "--journal"
option_word Device = codes "--dev"

abbrev pub live_options : List LiveOption
live_options = Workers ∷ Rate ∷ Repeat ∷ Journal ∷ Device ∷ []

-- the option that a word names
abbrev pub option_of : String Global → Option LiveOption
option_of word = spelled_by option_word live_options (string_bytes word)

-- a number, if it lies between these two or is one of them
abbrev pub if_between : ℕ → ℕ → ℕ → Option ℕ
if_between least most number = if is_between least most number then Some number else None

-- such a number that a word spells
abbrev pub number_between : ℕ → ℕ → List ℕ → Option ℕ
number_between least most word = option_and_then (if_between least most) (number_of word)

-- a device, if a word may name one
abbrev pub device_of : String Global → Option (String Global)
device_of word = if is_name (string_bytes word) then Some word else None

abbrev pub none_given : Given
none_given = record { workers = None; rate = None; repeat = None; journal = None; device = None }

abbrev pub is_given : Given → LiveOption → Bool
is_given given Workers = is_some given.workers
is_given given Rate = is_some given.rate
is_given given Repeat = is_some given.repeat
is_given given Journal = is_some given.journal
is_given given Device = is_some given.device

-- how many workers, or how many moments
abbrev pub has_sizes : Given → Bool
has_sizes given = is_some given.workers || is_some given.journal

-- with an option of the value that a word spells
abbrev pub set_to : Given → LiveOption → String Global → Option Given
set_to given Workers word = option_map (λ count. record given { workers = Some count }) (number_between 1 64 (string_bytes word))
set_to given Rate word = option_map (λ rate. record given { rate = Some rate }) (number_between 0 1_000_000_000 (string_bytes word))
set_to given Repeat word = option_map (λ passes. record given { repeat = Some passes }) (number_between 1 4_294_967_295 (string_bytes word))
set_to given Journal word = option_map (λ moments. record given { journal = Some moments }) (number_between 1 1_000_000 (string_bytes word))
set_to given Device word = option_map (λ name. record given { device = Some name }) (device_of word)

-- each option is given once at most
abbrev pub with_option : Given → LiveOption → String Global → Option Given
with_option given option word = if is_given given option then None else set_to given option word

-- an option that is not given: 2 workers, 1,000 frames a second, passes without an end, a million moments
abbrev pub options_of : Given → LiveOptions
options_of given = record {
  workers = unwrap_or given.workers 2;
  rate = unwrap_or given.rate 1000;
  repeat = given.repeat;
  journal = unwrap_or given.journal 1_000_000;
  device = given.device;
}

-- two files, after which no word may stand
abbrev pub with_files : Given → String Global → String Global → List (String Global) → Option Live
with_files given setup frames [] = Some (record { options = options_of given; sizes_given = has_sizes given; setup = setup; frames = frames })
with_files given setup frames (word ∷ words) = None

-- options, each with its value after it, and then two files
abbrev pub live_behind : Given → List (String Global) → Option Live
live_behind given [] = None
live_behind given (word ∷ []) = None
live_behind given (word ∷ next ∷ words) =
    option_map_or (λ option. option_and_then (λ more. live_behind more words) (with_option given option next))
    (option_of word) (with_files given word next words)

abbrev pub asked_live : List (String Global) → Option Live
asked_live words = live_behind none_given words

-- ---- within bounds
abbrev pub IsBetween : ℕ → ℕ → ℕ → Type 0
IsBetween least most number = (least ≤ number) × (number ≤ most)

abbrev pub IsDevice : String Global → Type 0
IsDevice name = is_name (string_bytes name) ≡ true

-- each option is within its bounds
pub record AreWithin (options : LiveOptions) : Type 0 where
  pub workers : IsBetween 1 64 options.workers
  pub rate : options.rate ≤ 1_000_000_000
  pub repeat : IfSome options.repeat (IsBetween 1 4_294_967_295)
  pub journal : IsBetween 1 1_000_000 options.journal
  pub device : IfSome options.device IsDevice
