-- What is asked of a book that is kept in a file: the file, and the lines that are run on it.
use Rattle.std.specs.Prelude.{◌≡◌, ◌⊎◌, ℕ, Bool, ◌||◌, ◌&&◌, ◌==◌, not, if◌then◌else◌, MatchBool, List, [], ◌∷◌, ◌++◌, Option, Some, None, is_some, unwrap_or, Result, Ok, Err, codes, string_bytes}
use Rattle.std.specs.List.{list_all}
use Rattle.std.specs.Str.{bytes_eq}
use Rattle.std.specs.declared.alloc.Global.{Global}
use Rattle.std.specs.declared.string.String.{String}
use Rattle.console_operand.specs.Word.{ends_word, has_bytes}
use Rattle.console_input.specs.Live.{asked_live}
use Rattle.console_input.specs.Options.{Parts, option_of, no_options, options_in}
use Rattle.console_input.specs.Orders.{begins_command, behind_name, order_by_words}
use Rattle.console_input.specs.declared.book.BookLines.{BookLines}
use Rattle.console_input.specs.declared.book.BookLines.TheVariants as lines
use Rattle.console_input.specs.declared.book.BookOrder.{BookOrder}
use Rattle.console_input.specs.declared.book.Request.{Request}
use Rattle.console_input.specs.declared.book.Request.TheVariants.{Plain, Book}
use Rattle.console_input.specs.declared.fault.ArgsFault.{ArgsFault}
use Rattle.console_input.specs.declared.fault.ArgsFault.TheVariants.{Usage, NoWord, NotOfBook, Read}
use Rattle.console_input.specs.declared.fault.ReadFault.TheVariants.{NoMemory}
use Rattle.console_input.specs.declared.live.Live.{Live as LiveOrder}
use Rattle.console_input.specs.declared.options.BookOptions.{BookOptions}
use Rattle.console_input.specs.declared.order.Order.{Order}

-- ---- the lines
-- one line, those of standard input, those of a file, those of standard input one by one, those of a file and then the frames of
-- another, or a live host
pub data Asked : Type 0 where
  Line : List ℕ → Asked
  Input : Asked
  Script : List ℕ → Asked
  Shell : Asked
  Host : List ℕ → List ℕ → Asked
  Live : LiveOrder → Asked

abbrev pub asked_for : BookLines → Asked
asked_for (lines.Line line) = Line line.items
asked_for lines.Input = Input
asked_for (lines.Script path) = Script (string_bytes path)
asked_for lines.Shell = Shell
asked_for (lines.Host script frames) = Host (string_bytes script) (string_bytes frames)
asked_for (lines.Live live) = Live live

-- a byte that may stand within a word of a line
abbrev pub is_of_word : ℕ → Bool
is_of_word byte = not (ends_word byte || (byte == 10))

-- an argument that is a word of a line: it has bytes, and no space, tab, # or line feed
abbrev pub is_line_word : List ℕ → Bool
is_line_word word = has_bytes word && list_all is_of_word word

-- a line that is continued by words, with a space before each
abbrev pub line_by : List ℕ → List (String Global) → Result Asked ArgsFault
line_by line [] = Ok (Line line)
line_by line (word ∷ words) = if is_line_word (string_bytes word) then line_by (line ++ 32 ∷ string_bytes word) words else Err NoWord

-- a word with which a line may begin
abbrev pub begins_line : List ℕ → Bool
begins_line word = bytes_eq word (codes "run") || begins_command word

-- why a word begins no line; `host` with a script and frames alone is there for a book
abbrev pub no_line : List ℕ → ArgsFault
no_line verb = if bytes_eq verb (codes "host") then NotOfBook else Usage

-- words as a line
abbrev pub line_of : List ℕ → List (String Global) → Result Asked ArgsFault
line_of verb words = if begins_line verb then line_by verb words else Err (no_line verb)

-- a script from a file, or from standard input if a dash stands for it
abbrev pub script_at : List ℕ → Asked
script_at path = if bytes_eq path (codes "-") then Input else Script path

-- a verb by itself
abbrev pub asked_alone : List ℕ → Result Asked ArgsFault
asked_alone verb = if bytes_eq verb (codes "shell") then Ok Shell else line_of verb []

-- a verb with one word after it
abbrev pub asked_of_one : List ℕ → String Global → Result Asked ArgsFault
asked_of_one verb word = if bytes_eq verb (codes "run") then Ok (script_at (string_bytes word)) else line_of verb (word ∷ [])

-- a verb with two words after it
abbrev pub asked_of_two : List ℕ → String Global → String Global → Result Asked ArgsFault
asked_of_two verb one two = if bytes_eq verb (codes "host") then Ok (Host (string_bytes one) (string_bytes two)) else line_of verb (one ∷ two ∷ [])

-- and with others after them
abbrev pub asked_of_more : List ℕ → String Global → String Global → List (String Global) → Result Asked ArgsFault
asked_of_more verb one two [] = asked_of_two verb one two
asked_of_more verb one two (three ∷ words) = line_of verb (one ∷ two ∷ three ∷ words)

-- `run` with exactly one word after it is a script, `shell` alone is a dialogue, `host` with exactly two is a script and frames, and
-- all else is a line
abbrev pub asked_of_words : List ℕ → List (String Global) → Result Asked ArgsFault
asked_of_words verb [] = asked_alone verb
asked_of_words verb (word ∷ []) = asked_of_one verb word
asked_of_words verb (one ∷ two ∷ words) = asked_of_more verb one two words

-- a live host whose workers and moments are not numbered: two serve, and the journal is the book's
abbrev pub live_on_book : Option LiveOrder → Result Asked ArgsFault
live_on_book (Some live) = if live.sizes_given then Err NotOfBook else Ok (Live live)
live_on_book None = Err Usage

-- options may come after `live` alone
abbrev pub asked_of_book : List (String Global) → Result Asked ArgsFault
asked_of_book [] = Err Usage
asked_of_book (verb ∷ words) = if bytes_eq (string_bytes verb) (codes "live") then live_on_book (asked_live words) else asked_of_words (string_bytes verb) words

-- ---- what is told
-- just these lines, or why there are none; or there is no memory for them
abbrev pub GivesLines : Result Asked ArgsFault → Result BookLines ArgsFault → Type 0
GivesLines asked (Ok given) = asked ≡ Ok (asked_for given)
GivesLines asked (Err fault) = (fault ≡ Read NoMemory) ⊎ (asked ≡ Err fault)

-- ---- a book, or what is asked without one
abbrev pub plain : Result Order ArgsFault → Result Request ArgsFault
plain (Ok order) = Ok (Plain order)
plain (Err fault) = Err fault

-- of a file, and so many seconds to wait for it, is asked what words ask of a book
pub record IsOrder (file : String Global) (wait : ℕ) (asked : Result Asked ArgsFault) (order : BookOrder) : Type 0 where
  pub file_is : order.file ≡ file
  pub wait_is : order.wait ≡ wait
  pub lines : asked ≡ Ok (asked_for order.lines)

abbrev pub GivesBook : String Global → ℕ → Result Asked ArgsFault → Result Request ArgsFault → Type 0
GivesBook file wait asked (Ok (Book order)) = IsOrder file wait asked order
GivesBook file wait asked (Ok (Plain order)) = ⊥
GivesBook file wait asked (Err fault) = (fault ≡ Read NoMemory) ⊎ (asked ≡ Err fault)

abbrev pub IsOfBook : String Global → ℕ → List (String Global) → Result Request ArgsFault → Type 0
IsOfBook file wait words told = GivesBook file wait (asked_of_book words) told

-- of the file that the environment names, if it names one
abbrev pub IsOfNamed : Result (Option (String Global)) ArgsFault → ℕ → List (String Global) → Result Request ArgsFault → Result Request ArgsFault → Type 0
IsOfNamed (Ok (Some file)) wait words other told = IsOfBook file wait words told
IsOfNamed (Ok None) wait words other told = told ≡ other
IsOfNamed (Err fault) wait words other told = told ≡ Err fault

-- a file that an option names comes first
abbrev pub IsOfFile : Option (String Global) → Result (Option (String Global)) ArgsFault → ℕ → List (String Global) → Result Request ArgsFault → Type 0
IsOfFile (Some file) named wait words told = IsOfBook file wait words told
IsOfFile None named wait words told = IsOfNamed named wait words (Err Usage) told

-- with options the words ask of a book
abbrev pub RequestWith : Result (Option (String Global)) ArgsFault → BookOptions → List (String Global) → Result Request ArgsFault → Type 0
RequestWith named options words told = IsOfFile options.file named (unwrap_or options.wait 0) words told

abbrev pub RequestOpted : Result (Option (String Global)) ArgsFault → Option Parts → Result Request ArgsFault → Type 0
RequestOpted named None told = told ≡ Err Usage
RequestOpted named (Some it) told = RequestWith named it.options (it.verb ∷ it.words) told

-- a word with which a line may begin, or a dialogue, a script with frames, or a live host
abbrev pub is_of_book : List ℕ → Bool
is_of_book word = bytes_eq word (codes "shell") || bytes_eq word (codes "host") || bytes_eq word (codes "live") || begins_line word

-- without options such a word asks of the book that the environment names, if it names one; and the words ask else what they ask
-- without a book
abbrev pub RequestWithout : Result (Option (String Global)) ArgsFault → String Global → List (String Global) → Result Request ArgsFault → Type 0
RequestWithout named verb words told =
    MatchBool (is_of_book (string_bytes verb)) (IsOfNamed named 0 (verb ∷ words) (plain (order_by_words (verb ∷ words))) told) (told ≡ plain (order_by_words (verb ∷ words)))

abbrev pub RequestBy : Result (Option (String Global)) ArgsFault → List (String Global) → Result Request ArgsFault → Type 0
RequestBy named [] told = told ≡ plain (order_by_words [])
RequestBy named (verb ∷ words) told = MatchBool (is_some (option_of verb)) (RequestOpted named (options_in no_options verb words) told) (RequestWithout named verb words told)

abbrev pub RequestIn : Result (Option (String Global)) ArgsFault → Result (List (String Global)) ArgsFault → Result Request ArgsFault → Type 0
RequestIn named (Ok args) told = RequestBy named (behind_name args) told
RequestIn named (Err fault) told = told ≡ Err fault

-- it is what some arguments that were found ask, with what was found in the environment
pub record IsRequest (may_be : Result (List (String Global)) ArgsFault → Type 0) (may_name : Result (Option (String Global)) ArgsFault → Type 0) (told : Result Request ArgsFault) : Type 0 where
  pub args : Result (List (String Global)) ArgsFault
  pub found : may_be args
  pub named : Result (Option (String Global)) ArgsFault
  pub stands : may_name named
  pub is : RequestIn named args told
