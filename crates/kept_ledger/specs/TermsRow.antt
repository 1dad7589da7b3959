-- The row of what a book began with, and what a row says that it began with.
use Rattle.std.specs.Prelude.{◌≡◌, ◌⊎◌, ℕ, ◌^◌, ◌==◌, nat_lt, if◌then◌else◌, cond, List, [], ◌∷◌, ◌++◌, flat_map, map, Option, Some, None, option_and_then, Result, Ok, Err, MatchResult}
use Rattle.sqlite_value.specs.declared.value.Value.{Value}
use Rattle.sqlite_value.specs.Order.{Row as Values, column}
use Rattle.journal_model.specs.declared.limits.Limits.{Limits}
use Rattle.kept_ledger.specs.declared.fault.ReadFault.{ReadFault}
use Rattle.kept_ledger.specs.declared.fault.ReadFault.TheVariants.{LaterFormat, NoTerms}
use Rattle.kept_ledger.specs.Columns.{number, text, number_in, text_in}
use Rattle.kept_ledger.specs.Faults.{IsSqlFault, IsWant}
use Rattle.kept_ledger.specs.TermsView.{PlainTerms, terms_of}

-- ---- names in one text
-- names with a blank between each and the next
abbrev pub joined : List (List ℕ) → List ℕ
joined [] = []
joined (name ∷ names) = name ++ flat_map (λ other. 32 ∷ other) names

-- the first of the names begins with these bytes
abbrev pub onto : List ℕ → List (List ℕ) → List (List ℕ)
onto bytes [] = bytes ∷ []
onto bytes (name ∷ names) = (bytes ++ name) ∷ names

-- the names that the blanks of a text set apart
abbrev pub names_in : List ℕ → List (List ℕ)
names_in [] = [] ∷ []
names_in (byte ∷ more) = cond (byte == 32) ([] ∷ names_in more) (onto (byte ∷ []) (names_in more))

-- ---- a row
-- how the rows of the two tables are written here
abbrev pub format : ℕ
format = 1

abbrev pub terms_row : Limits → List ℕ → Values
terms_row limits devices =
    number (Some format) ∷ number (Some limits.journal) ∷ number (Some limits.budget) ∷ number (Some limits.last_id) ∷ number (Some limits.last_serial) ∷ text (Some devices) ∷ []

abbrev pub row_of_terms : PlainTerms → Values
row_of_terms t = terms_row t.limits (joined t.devices)

-- ---- what it says
-- an id of a map or a program
abbrev pub small : ℕ → Option ℕ
small n = if nat_lt n (2 ^ 32) then Some n else None

abbrev pub id_in : Value → Option ℕ
id_in value = option_and_then small (number_in value)

abbrev pub limits_in : Values → Option Limits
limits_in values =
    option_and_then (λ (journal : ℕ). option_and_then (λ (budget : ℕ). option_and_then (λ (last_id : ℕ). option_and_then
    (λ (last_serial : ℕ). Some (record { journal = journal; budget = budget; last_id = last_id; last_serial = last_serial }))
    (number_in (column values 4))) (id_in (column values 3))) (number_in (column values 2))) (number_in (column values 1))

abbrev pub terms_told : Values → Option PlainTerms
terms_told values =
    option_and_then (λ (limits : Limits). option_and_then (λ (devices : List ℕ). terms_of (names_in devices) limits) (text_in (column values 5))) (limits_in values)

abbrev pub or_none : Option PlainTerms → Result PlainTerms ReadFault
or_none (Some t) = Ok t
or_none None = Err NoTerms

abbrev pub terms_under : Values → Option ℕ → Result PlainTerms ReadFault
terms_under values (Some n) = if nat_lt format n then Err (LaterFormat n) else (if nat_lt n format then Err NoTerms else or_none (terms_told values))
terms_under values None = Err NoTerms

-- the terms of a row, or why it has none: a later format, or no row of terms
abbrev pub terms_by : Values → Result PlainTerms ReadFault
terms_by values = terms_under values (number_in (column values 0))

-- ---- of the table
abbrev pub shown_terms : Values → Values
shown_terms row = column row 1 ∷ column row 2 ∷ column row 3 ∷ column row 4 ∷ column row 5 ∷ column row 6 ∷ []

-- there is one row
abbrev pub terms_shown : List Values → Result PlainTerms ReadFault
terms_shown (row ∷ []) = terms_by row
terms_shown _ = Err NoTerms

abbrev pub terms_in : List Values → Result PlainTerms ReadFault
terms_in rows = terms_shown (map shown_terms rows)

-- what is told of rows is this, unless memory ran out
abbrev pub TellsAs : Result PlainTerms ReadFault → Result PlainTerms ReadFault → Type 0
TellsAs wanted told = MatchResult told (λ t. wanted ≡ Ok t) (λ fault. IsWant fault ⊎ (wanted ≡ Err fault))

-- what is read is this, unless SQLite stops it
abbrev pub ReadsAs : Result PlainTerms ReadFault → Result PlainTerms ReadFault → Type 0
ReadsAs wanted read = MatchResult read (λ t. wanted ≡ Ok t) (λ fault. IsSqlFault fault ⊎ (wanted ≡ Err fault))
