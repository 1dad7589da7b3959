-- What the words after the program's name ask.
use Rattle.std.specs.Prelude.{ℕ, Bool, ◌||◌, if◌then◌else◌, List, [], ◌∷◌, Option, Some, None, Result, Ok, Err, codes, string_bytes}
use Rattle.std.specs.Option.{ok_or, option_map}
use Rattle.std.specs.Str.{bytes_eq}
use Rattle.std.specs.declared.alloc.Global.{Global}
use Rattle.std.specs.declared.string.String.{String}
use Rattle.console_input.specs.Live.{asked_live}
use Rattle.console_input.specs.declared.fault.ArgsFault.{ArgsFault}
use Rattle.console_input.specs.declared.fault.ArgsFault.TheVariants.{Usage, Command}
use Rattle.console_input.specs.declared.order.Order.{Order}
use Rattle.console_input.specs.declared.order.Order.TheVariants.{Help, Version, Shell, RunInput, Run, Host, HostThen, Live}

-- a verb by itself
abbrev pub asked_alone : List ℕ → Option Order
asked_alone verb =
    if bytes_eq verb (codes "help") || bytes_eq verb (codes "--help") || bytes_eq verb (codes "-h") then Some Help else
    if bytes_eq verb (codes "version") || bytes_eq verb (codes "--version") || bytes_eq verb (codes "-V") then Some Version else
    if bytes_eq verb (codes "shell") then Some Shell else
    None

-- a script from a file, or from standard input if a dash stands for it
abbrev pub asked_to_run : String Global → Order
asked_to_run path = if bytes_eq (string_bytes path) (codes "-") then RunInput else Run path

-- a verb with a path
abbrev pub asked_of_one : List ℕ → String Global → Option Order
asked_of_one verb path = if bytes_eq verb (codes "run") then Some (asked_to_run path) else None

-- a verb with the paths of a script and of frames
abbrev pub asked_of_two : List ℕ → String Global → String Global → Option Order
asked_of_two verb script frames = if bytes_eq verb (codes "host") then Some (Host script frames) else None

-- and with that of a script that runs after them
abbrev pub asked_of_three : List ℕ → String Global → String Global → String Global → Option Order
asked_of_three verb script frames after = if bytes_eq verb (codes "host") then Some (HostThen script frames after) else None

-- a verb with two paths and others after them
abbrev pub asked_of_more : List ℕ → String Global → String Global → List (String Global) → Option Order
asked_of_more verb script frames [] = asked_of_two verb script frames
asked_of_more verb script frames (after ∷ []) = asked_of_three verb script frames after
asked_of_more verb script frames _ = None

-- a verb with paths after it
abbrev pub asked_of_paths : List ℕ → List (String Global) → Option Order
asked_of_paths verb [] = asked_alone verb
asked_of_paths verb (path ∷ []) = asked_of_one verb path
asked_of_paths verb (script ∷ frames ∷ paths) = asked_of_more verb script frames paths

-- a verb with words after it: options may come after `live` alone
abbrev pub asked_by : List ℕ → List (String Global) → Option Order
asked_by verb words = if bytes_eq verb (codes "live") then option_map Live (asked_live words) else asked_of_paths verb words

-- no word at all asks to run standard input; other words than these ask nothing
abbrev pub asked : List (String Global) → Option Order
asked [] = Some RunInput
asked (verb ∷ words) = asked_by (string_bytes verb) words

-- a word with which a command of a script begins; `run` is a verb of the program, too
abbrev pub begins_command : List ℕ → Bool
begins_command word =
    bytes_eq word (codes "map") || bytes_eq word (codes "prog") || bytes_eq word (codes "net") || bytes_eq word (codes "batch")
    || bytes_eq word (codes "unpin") || bytes_eq word (codes "frame") || bytes_eq word (codes "journal")

-- why words that begin with this one ask nothing: they are a command, or no form of the program's
abbrev pub fault_by : List ℕ → ArgsFault
fault_by verb = if begins_command verb then Command else Usage

abbrev pub fault_of : List (String Global) → ArgsFault
fault_of [] = Usage
fault_of (verb ∷ words) = fault_by (string_bytes verb)

-- what words ask, or why they ask nothing
abbrev pub order_by_words : List (String Global) → Result Order ArgsFault
order_by_words words = ok_or (asked words) (fault_of words)

-- without the program's name
abbrev pub behind_name : List (String Global) → List (String Global)
behind_name [] = []
behind_name (name ∷ words) = words

-- what arguments ask, or why they ask nothing, as when they were not read
abbrev pub order_in : Result (List (String Global)) ArgsFault → Result Order ArgsFault
order_in (Ok args) = order_by_words (behind_name args)
order_in (Err fault) = Err fault
