-- The files that a script names.
use Rattle.std.specs.Prelude.{◌≡◌, ℕ, ◌+◌, ◌≤◌, nat_le, ◌||◌, is_some, if◌then◌else◌, length, List, [], ◌∷◌, ◌++◌, Option, Some, None, Result, Ok, Err, Contains, Any, All, ◌⊎◌}
use Rattle.std.specs.Str.{bytes_eq, IsUtf8}
use Rattle.console_operand.specs.Line.{lines_of}
use Rattle.bt_syntax.specs.Files.{files_of}
use Rattle.bt_syntax.specs.declared.files.FileText.{FileText}
use Rattle.console_input.specs.declared.fault.Cause.{Cause}
use Rattle.console_input.specs.declared.fault.ReadFault.{ReadFault}
use Rattle.console_input.specs.declared.fault.ReadFault.TheVariants.{Unread}
use Rattle.console_input.specs.declared.named.TheConstants.{MOST_NAMED}
use Rattle.console_input.specs.declared.source.TheConstants.{MOST_SCRIPT}

-- ---- which files they are
-- a file: its path, and what stands in it
pub record Text : Type 0 where
  pub path : List ℕ
  pub bytes : List ℕ

abbrev pub text : List ℕ → List ℕ → Text
text path bytes = record { path = path; bytes = bytes }

abbrev pub text_of : FileText → Text
text_of file = text file.path file.bytes.items

abbrev pub texts : List FileText → List Text
texts [] = []
texts (file ∷ files) = text_of file ∷ texts files

-- what stands in the file of a path: the first of the path counts
abbrev pub text_at : List Text → List ℕ → Option (List ℕ)
text_at [] path = None
text_at (it ∷ others) path = if bytes_eq it.path path then Some it.bytes else text_at others path

-- what the file of a path has, as `at` tells
abbrev pub Place : Type 0
Place = List ℕ → Option (List ℕ)

-- how many bytes stand in files
abbrev pub bytes_in : List Text → ℕ
bytes_in [] = 0
bytes_in (it ∷ others) = length it.bytes + bytes_in others

-- a file that is at hand, if there is room for it beside so many bytes
abbrev pub if_room : ℕ → List ℕ → Option (List ℕ) → List Text
if_room taken path None = []
if_room taken path (Some bytes) = if nat_le (taken + length bytes) MOST_NAMED then text path bytes ∷ [] else []

-- with the file of a path, if it is at hand and not there yet, nor among those that are known, and there is room for it
abbrev pub with_path : Place → List Text → List Text → List ℕ → List Text
with_path at known files path =
    if is_some (text_at known path) || is_some (text_at files path) then files
    else files ++ if_room (bytes_in known + bytes_in files) path (at path)

-- with the files of some paths, in their order
abbrev pub with_paths : Place → List Text → List Text → List (List ℕ) → List Text
with_paths at known files [] = files
with_paths at known files (path ∷ paths) = with_paths at known (with_path at known files path) paths

-- with the files that the lines of a script name
abbrev pub with_named : Place → List Text → List Text → List ℕ → List Text
with_named at known files script = with_paths at known files (files_of (lines_of script))

-- with the files that the lines of some files name
abbrev pub with_deeper : Place → List Text → List Text → List Text → List Text
with_deeper at known files [] = files
with_deeper at known files (by ∷ others) = with_deeper at known (with_named at known files by.bytes) others

-- those of a script, and then those that these name
abbrev pub named_texts : Place → List ℕ → List Text
named_texts at script =
    let first = with_named at [] [] script in
    first ++ with_deeper at first [] first

-- ---- what a reader gives
-- what may be found of a file, by what a read of it may come to: it is not at hand if it cannot be read or is too long
abbrev pub IsAtHand : (List ℕ → ℕ → Result (List ℕ) ReadFault → Type 0) → List ℕ → Option (List ℕ) → Type 0
IsAtHand may_read path (Some bytes) = may_read path MOST_SCRIPT (Ok bytes)
IsAtHand may_read path None = ¬ (IsUtf8 path) ⊎ ((why : Cause) × may_read path MOST_SCRIPT (Err (Unread why)))

-- it gives for each path what `at` tells
abbrev pub ReadsAs : (List ℕ → Option (List ℕ) → Type 0) → Place → Type 0
ReadsAs may_give at = (path : List ℕ) (told : Option (List ℕ)) → may_give path told → told ≡ at path

module _ (may_give : List ℕ → Option (List ℕ) → Type 0) where
  -- files are those that a script names and those that these name, whatever the reader gives
  abbrev pub AreNamedFiles : List ℕ → List FileText → Type 0
  AreNamedFiles script files = (at : Place) → ReadsAs may_give at → texts files ≡ named_texts at script

  abbrev pub AreDeeper : List FileText → List FileText → Type 0
  AreDeeper first files = (at : Place) → ReadsAs may_give at → texts files ≡ with_deeper at (texts first) [] (texts first)

  abbrev pub AddsFiles : List FileText → List ℕ → List FileText → List FileText → Type 0
  AddsFiles known script old new = (at : Place) → ReadsAs may_give at → texts new ≡ with_named at (texts known) (texts old) script

  abbrev pub AddsFile : List FileText → List ℕ → List FileText → List FileText → Type 0
  AddsFile known path old new = (at : Place) → ReadsAs may_give at → texts new ≡ with_path at (texts known) (texts old) path

-- so many bytes are left for more files
abbrev pub Leaves : List FileText → List FileText → ℕ → Type 0
Leaves known files left = bytes_in (texts known) + bytes_in (texts files) + left ≡ MOST_NAMED

-- ---- that they are named, also if a reader gives other bytes each time
-- a line of the script names the file
abbrev pub IsNamedIn : List ℕ → FileText → Type 0
IsNamedIn script file = Contains (files_of (lines_of script)) file.path

-- a line of one of the files names it
abbrev pub IsNamedInAny : List FileText → FileText → Type 0
IsNamedInAny files file = Any (λ (it : FileText). IsNamedIn it.bytes.items file) files

-- a line of the script names it, or one of these files
abbrev pub IsNamed : List ℕ → List FileText → FileText → Type 0
IsNamed script files file = IsNamedIn script file ⊎ IsNamedInAny files file

-- a file of the path was added, or none
abbrev pub AddsAtMost : List ℕ → List FileText → List FileText → Type 0
AddsAtMost path old new = (new ≡ old) ⊎ ((file : FileText) × (file.path ≡ path) × (new ≡ old ++ (file ∷ [])))

-- files that are so were added
pub record Adds (IsSo : FileText → Type 0) (old new : List FileText) : Type 0 where
  pub more : List FileText
  pub is : new ≡ old ++ more
  pub so : All IsSo more

-- files are those that a script names, each read once, and those that these name; they are named also if a reader gives
-- other bytes each time
pub record AreFilesOf (may_read : List ℕ → ℕ → Result (List ℕ) ReadFault → Type 0) (script : List ℕ) (files : List FileText) : Type 0 where
  pub named : All (IsNamed script files) files
  pub whole : AreNamedFiles (IsAtHand may_read) script files
  pub few : bytes_in (texts files) ≤ MOST_NAMED
