-- Files that are named by the lines of a script, or of one of some files.
use Rattle.std.proofs.Common.{◌≡◌, ℕ, suc, ◌<◌, ◌≤◌, ◌+◌, ◌||◌, Bool, true, false, is_some, List, [], ◌∷◌, ◌++◌, length, drop, get_or, Option, None, Some, Result, Ok, Err, inl, inr, refl, sym, ◌∙◌, ap, append_assoc, subst, rules, arith, add-one, drop-cons, le-leb}
use Rattle.std.proofs.lemmas.Bool.{lt-leb}
use Rattle.std.specs.Prelude.{All, Contains, IfOk, slice_index_or, option_map, if◌then◌else◌, nat_le}
use Rattle.std.specs.Str.{bytes_eq}
use Rattle.std.proofs.Math.ListN.{drop_of_length-le}
use Rattle.std.proofs.lemmas.List.Elements.{All-same, All-push, All-append, All-weaker, Contains-append_left}
use Rattle.console_operand.specs.Line.{lines_of}
use Rattle.bt_syntax.specs.Files.{file_at, files_of}
use Rattle.bt_syntax.specs.declared.files.FileText.{FileText}
use Rattle.console_input.specs.Named.{Text, text, text_of, texts, text_at, Place, bytes_in, if_room, with_path, with_paths, with_deeper, ReadsAs, AddsFile, AddsFiles, AreDeeper, AreNamedFiles, AddsAtMost, Adds, IsNamedIn, IsNamedInAny, IsNamed, Leaves}
use Rattle.console_input.specs.declared.named.TheConstants.{MOST_NAMED}

append_nil : {X : Type 0} (xs : List X) → xs ++ [] ≡ xs
append_nil [] = refl
append_nil (x ∷ xs) = ap (λ ys. x ∷ ys) (append_nil xs)

-- ---- what stands in files
texts-append : (files more : List FileText) → texts (files ++ more) ≡ texts files ++ texts more
texts-append [] more = refl
texts-append (file ∷ files) more = ap (λ others. text_of file ∷ others) (texts-append files more)

file_at_texts : (files : List FileText) (path : List ℕ) → file_at files path ≡ text_at (texts files) path
file_at_texts [] path = refl
file_at_texts (file ∷ files) path = ap (λ (found : Option (List ℕ)). if bytes_eq file.path path then Some file.bytes.items else found) (file_at_texts files path)

some_same : {X : Type 0} (f : X → List ℕ) (found : Option X) → is_some found ≡ is_some (option_map f found)
some_same f None = refl
some_same f (Some x) = refl

pub among_texts : {X : Type 0} (f : X → List ℕ) (found : Option X) (files : List FileText) (path : List ℕ) → option_map f found ≡ file_at files path → is_some found ≡ is_some (text_at (texts files) path)
among_texts f found files path is = some_same f found ∙ ap is_some (is ∙ file_at_texts files path)

-- ---- one more path
with_known : (at : Place) (known files : List Text) (path : List ℕ) → (is_some (text_at known path) || is_some (text_at files path)) ≡ true → files ≡ with_path at known files path
with_known at known files path there = sym (ap (λ is. if is then files else (files ++ if_room (bytes_in known + bytes_in files) path (at path))) there)

with_read : (at : Place) (known files : List Text) (path : List ℕ) (told : Option (List ℕ)) → (is_some (text_at known path) || is_some (text_at files path)) ≡ false → told ≡ at path
    → files ++ if_room (bytes_in known + bytes_in files) path told ≡ with_path at known files path
with_read at known files path told new is =
    ap (λ bytes. files ++ if_room (bytes_in known + bytes_in files) path bytes) is
    ∙ sym (ap (λ there. if there then files else (files ++ if_room (bytes_in known + bytes_in files) path (at path))) new)

-- ---- how many bytes they have
bytes-append : (files more : List Text) → bytes_in (files ++ more) ≡ bytes_in files + bytes_in more
bytes-append [] more = omega arith
bytes-append (file ∷ files) more = let deeper = bytes-append files more in omega (arith, deeper)

pub bytes-then : (files more : List FileText) → bytes_in (texts (files ++ more)) ≡ bytes_in (texts files) + bytes_in (texts more)
bytes-then files more = ap bytes_in (texts-append files more) ∙ bytes-append (texts files) (texts more)

pub few_all : (files more : List FileText) → bytes_in (texts files) + bytes_in (texts more) ≤ MOST_NAMED → bytes_in (texts (files ++ more)) ≤ MOST_NAMED
few_all files more few = let all : bytes_in (texts (files ++ more)) ≡ bytes_in (texts files) + bytes_in (texts more) = bytes-then files more in omega (arith, all, few)

-- there is room for a file that has no more bytes than are left
pub leaves_room : (known old : List FileText) (bytes : List ℕ) (left rest : ℕ) → Leaves known old left → left ≡ length bytes + rest → nat_le (bytes_in (texts known) + bytes_in (texts old) + length bytes) MOST_NAMED ≡ true
leaves_room known old bytes left rest leaves is = le-leb _ _ (omega (arith, leaves, is))

pub leaves_none : (known old : List FileText) (bytes : List ℕ) (left : ℕ) → Leaves known old left → left < length bytes → nat_le (bytes_in (texts known) + bytes_in (texts old) + length bytes) MOST_NAMED ≡ false
leaves_none known old bytes left leaves more = lt-leb _ _ (omega (arith, leaves, more))

pub leaves_rest : {T E : Type 0} (r : Result T E) (known old files : List FileText) (path bytes : List ℕ) (left rest : ℕ) → Leaves known old left → left ≡ length bytes + rest
    → IfOk r (λ _. (file : FileText) × (file.path ≡ path) × (file.bytes.items ≡ bytes) × (files ≡ old ++ (file ∷ []))) → IfOk r (λ _. Leaves known files rest)
leaves_rest (Err fault) known old files path bytes left rest leaves is it = tt
leaves_rest (Ok done) known old files path bytes left rest leaves is it =
    let all : bytes_in (texts files) ≡ bytes_in (texts old) + (length it.0.bytes.items + 0) = ap (λ (them : List FileText). bytes_in (texts them)) it.3 ∙ bytes-then old (it.0 ∷ []) in
    let many : length it.0.bytes.items ≡ length bytes = ap (λ (bs : List ℕ). length bs) it.2 in
    omega (arith, leaves, is, all, many)

module _ (may_give : List ℕ → Option (List ℕ) → Type 0) (known old : List FileText) (path : List ℕ) where
  pub adds_known : (is_some (text_at (texts known) path) || is_some (text_at (texts old) path)) ≡ true → AddsFile may_give known path old old
  adds_known there at reads = with_known at (texts known) (texts old) path there

  pub adds_absent : (is_some (text_at (texts known) path) || is_some (text_at (texts old) path)) ≡ false → may_give path None → AddsFile may_give known path old old
  adds_absent new told at reads = sym (append_nil (texts old)) ∙ with_read at (texts known) (texts old) path None new (reads path None told)

  pub adds_none : (bytes : List ℕ) → (is_some (text_at (texts known) path) || is_some (text_at (texts old) path)) ≡ false → may_give path (Some bytes)
      → nat_le (bytes_in (texts known) + bytes_in (texts old) + length bytes) MOST_NAMED ≡ false → AddsFile may_give known path old old
  adds_none bytes new told full at reads =
      sym (append_nil (texts old)) ∙ ap (λ (room : Bool). texts old ++ (if room then text path bytes ∷ [] else [])) (sym full)
      ∙ with_read at (texts known) (texts old) path (Some bytes) new (reads path (Some bytes) told)

  pub adds_present : {T E : Type 0} (r : Result T E) (files : List FileText) (bytes : List ℕ) → (is_some (text_at (texts known) path) || is_some (text_at (texts old) path)) ≡ false → may_give path (Some bytes)
      → nat_le (bytes_in (texts known) + bytes_in (texts old) + length bytes) MOST_NAMED ≡ true
      → IfOk r (λ _. (file : FileText) × (file.path ≡ path) × (file.bytes.items ≡ bytes) × (files ≡ old ++ (file ∷ []))) → IfOk r (λ _. AddsFile may_give known path old files)
  adds_present (Err fault) files bytes new told fits it = tt
  adds_present (Ok done) files bytes new told fits it = λ at reads.
      ap texts it.3 ∙ texts-append old (it.0 ∷ []) ∙ ap (λ name. texts old ++ (text name it.0.bytes.items ∷ [])) it.1 ∙ ap (λ bs. texts old ++ (text path bs ∷ [])) it.2
      ∙ ap (λ (room : Bool). texts old ++ (if room then text path bytes ∷ [] else [])) (sym fits)
      ∙ with_read at (texts known) (texts old) path (Some bytes) new (reads path (Some bytes) told)

  pub adds_named : {T E : Type 0} (r : Result T E) (files : List FileText) (bytes : List ℕ)
      → IfOk r (λ _. (file : FileText) × (file.path ≡ path) × (file.bytes.items ≡ bytes) × (files ≡ old ++ (file ∷ []))) → IfOk r (λ _. AddsAtMost path old files)
  adds_named (Err fault) files bytes it = tt
  adds_named (Ok done) files bytes it = inr (it.0, it.1, it.3)

-- ---- one after another
drop_at : {X : Type 0} (xs : List X) (i : ℕ) (x : X) → i < length xs → x ≡ get_or xs i x → drop i xs ≡ x ∷ drop (i + 1) xs
drop_at xs i x within is = drop-cons xs i x within ∙ rw add-one (ap (λ y. y ∷ drop (suc i) xs) (sym is))

module _ (may_give : List ℕ → Option (List ℕ) → Type 0) (known old : List FileText) (paths : List (List ℕ)) where
  -- the files so far, and then those of the paths that are left, are those of all paths
  abbrev pub PathsLeft : List FileText → List (List ℕ) → Type 0
  PathsLeft files left = (at : Place) → ReadsAs may_give at → with_paths at (texts known) (texts files) left ≡ with_paths at (texts known) (texts old) paths

  pub paths_more : (files new : List FileText) (i : ℕ) (path : List ℕ) → i < length paths → path ≡ get_or paths i path → PathsLeft files (drop i paths) → AddsFile may_give known path files new
      → PathsLeft new (drop (i + 1) paths)
  paths_more files new i path within is left adds at reads =
      ap (λ (more : List Text). with_paths at (texts known) more (drop (i + 1) paths)) (adds at reads)
      ∙ subst (λ (rest : List (List ℕ)). with_paths at (texts known) (texts files) rest ≡ with_paths at (texts known) (texts old) paths) (drop_at paths i path within is) (left at reads)

  pub paths_done : (script : List ℕ) (files : List FileText) (i : ℕ) → length paths ≤ i → paths ≡ files_of (lines_of script) → PathsLeft files (drop i paths) → AddsFiles may_give known script old files
  paths_done script files i past is left at reads =
      subst (λ (rest : List (List ℕ)). with_paths at (texts known) (texts files) rest ≡ with_paths at (texts known) (texts old) paths) (drop_of_length-le paths past) (left at reads)
      ∙ ap (λ (them : List (List ℕ)). with_paths at (texts known) (texts old) them) is

module _ (may_give : List ℕ → Option (List ℕ) → Type 0) (first : List FileText) where
  -- the files so far, and then those that the files that are left name, are those that all of them name
  abbrev pub FilesLeft : List FileText → List FileText → Type 0
  FilesLeft deeper left = (at : Place) → ReadsAs may_give at → with_deeper at (texts first) (texts deeper) (texts left) ≡ with_deeper at (texts first) [] (texts first)

  pub files_more : (deeper new : List FileText) (i : ℕ) (by : FileText) → i < length first → by ≡ get_or first i by → FilesLeft deeper (drop i first) → AddsFiles may_give first by.bytes.items deeper new
      → FilesLeft new (drop (i + 1) first)
  files_more deeper new i by within is left adds at reads =
      ap (λ (more : List Text). with_deeper at (texts first) more (texts (drop (i + 1) first))) (adds at reads)
      ∙ subst (λ (rest : List FileText). with_deeper at (texts first) (texts deeper) (texts rest) ≡ with_deeper at (texts first) [] (texts first)) (drop_at first i by within is) (left at reads)

  pub files_done : (deeper : List FileText) (i : ℕ) → length first ≤ i → FilesLeft deeper (drop i first) → AreDeeper may_give first deeper
  files_done deeper i past left at reads =
      subst (λ (rest : List FileText). with_deeper at (texts first) (texts deeper) (texts rest) ≡ with_deeper at (texts first) [] (texts first)) (drop_of_length-le first past) (left at reads)

pub named_whole : (may_give : List ℕ → Option (List ℕ) → Type 0) (script : List ℕ) (first deeper : List FileText) → AddsFiles may_give [] script [] first → AreDeeper may_give first deeper
    → AreNamedFiles may_give script (first ++ deeper)
named_whole may_give script first deeper adds behind at reads =
    texts-append first deeper ∙ ap (λ (more : List Text). texts first ++ more) (behind at reads) ∙ ap (λ (them : List Text). them ++ with_deeper at them [] them) (adds at reads)

-- ---- that they are named
pub adds_nothing : (IsSo : FileText → Type 0) (old : List FileText) → Adds IsSo old old
adds_nothing IsSo old = record { more = []; is = sym (append_nil old); so = search rules }

pub adds_more : (script path : List ℕ) (old files new : List FileText) → AddsAtMost path files new → Contains (files_of (lines_of script)) path → Adds (IsNamedIn script) old files → Adds (IsNamedIn script) old new
adds_more script path old files new (inl same) named it = record { more = it.more; is = same ∙ it.is; so = it.so }
adds_more script path old files new (inr added) named it = record {
  more = it.more ++ (added.0 ∷ []);
  is = added.2 ∙ ap (λ (them : List FileText). them ++ (added.0 ∷ [])) it.is ∙ append_assoc old it.more (added.0 ∷ []);
  so = All-push (IsNamedIn script) it.more added.0 it.so (subst (λ name. Contains (files_of (lines_of script)) name) (sym added.1) named);
}

pub all_named : (IsSo : FileText → Type 0) (old new : List FileText) → Adds IsSo old new → All IsSo old → All IsSo new
all_named IsSo old new it before = All-same IsSo new (old ++ it.more) it.is (All-append IsSo old it.more before it.so)

-- what a file names, one of the files names
named_by : (files : List FileText) (k : ℕ) (by : FileText) → k < length files → slice_index_or files k by ≡ by → (more : List FileText) → All (IsNamedIn by.bytes.items) more → All (IsNamedInAny files) more
named_by files k by within is more named = All-weaker (IsNamedIn by.bytes.items) (IsNamedInAny files) (λ file it. (k, by, within, is, it)) more named

pub deeper_named : (files : List FileText) (k : ℕ) (by : FileText) (old new : List FileText) → k < length files → slice_index_or files k by ≡ by → Adds (IsNamedIn by.bytes.items) old new → All (IsNamedInAny files) old
    → All (IsNamedInAny files) new
deeper_named files k by old new within is it before =
    all_named (IsNamedInAny files) old new (record { more = it.more; is = it.is; so = named_by files k by within is it.more it.so }) before

-- also among more files
any_left : (files more : List FileText) (file : FileText) → IsNamedInAny files file → IsNamedInAny (files ++ more) file
any_left files more file it =
    let among = Contains-append_left files more it.1 (it.0, it.2, it.3) in
    (among.0, it.1, among.1, among.2, it.4)

-- the files that a script names, and those that these name
pub named_all : (script : List ℕ) (first deeper : List FileText) → All (IsNamedIn script) first → All (IsNamedInAny first) deeper → All (IsNamed script (first ++ deeper)) (first ++ deeper)
named_all script first deeper named behind =
    All-append (IsNamed script (first ++ deeper)) first deeper
    (All-weaker (IsNamedIn script) (IsNamed script (first ++ deeper)) (λ file it. inl it) first named)
    (All-weaker (IsNamedInAny first) (IsNamed script (first ++ deeper)) (λ file it. inr (any_left first deeper file it)) deeper behind)
