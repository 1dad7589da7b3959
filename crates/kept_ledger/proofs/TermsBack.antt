-- Terms that are written to a row read back from it.
use Rattle.std.proofs.Common.{◌≡◌, ℕ, ◌^◌, ◌<◌, ◌==◌, ◌&&◌, nat_lt, nat_le, Bool, true, false, cond, IsTrue, List, [], ◌∷◌, ◌++◌, length, Option, Some, Ok, w64, option_and_then, refl, sym, ap, ◌∙◌, arith, append-nil, append_assoc}
use Rattle.std.specs.List.{list_all}
use Rattle.std.proofs.lemmas.Bool.Decides.{nat_tests}
use Rattle.std.proofs.lemmas.Int.{of_z-to_z}
use Rattle.host_words.specs.Spelling.{is_name, is_name_letter, is_between}
use Rattle.bt_roots.specs.View.{devices_are_good, are_distinct}
use Rattle.journal_model.specs.declared.limits.Limits.{Limits}
use Rattle.kept_ledger.specs.TermsView.{PlainTerms, AreGood, FitLimits, AreTerms, terms_of}
use Rattle.kept_ledger.specs.TermsRow.{small, joined, onto, names_in, format, terms_row, row_of_terms, limits_in, terms_told, terms_under, or_none, terms_by, terms_in}
use Rattle.kept_ledger.specs.TermsRead.{IsRead}
use Rattle.kept_ledger.specs.Ledger.{stored_terms}
use Rattle.kept_ledger.proofs.ColumnsRead.{number_back}

-- ---- reading names byte by byte
-- what is read so far, and the rest
abbrev pub IsCut : List ℕ → List (List ℕ) → List ℕ → List ℕ → Type 0
IsCut text names name rest = names_in text ≡ names ++ onto name (names_in rest)

begun_empty : (rest : List ℕ) → onto [] (names_in rest) ≡ names_in rest
begun_empty rest = by (names_in rest) (ends rest)
  where
    ends : (rest : List ℕ) → (w : List ℕ) × (ws : List (List ℕ)) × (names_in rest ≡ w ∷ ws)
    ends [] = ([], [], refl)
    ends (byte ∷ more) = at (byte == 32) (names_in more)
      where
        at : (b : Bool) (ws : List (List ℕ)) → (w : List ℕ) × (vs : List (List ℕ)) × (cond b ([] ∷ ws) (onto (byte ∷ []) ws) ≡ w ∷ vs)
        at true ws = ([], ws, refl)
        at false [] = (byte ∷ [], [], refl)
        at false (w ∷ ws) = (byte ∷ w, ws, refl)

    by : (ns : List (List ℕ)) → (w : List ℕ) × (ws : List (List ℕ)) × (ns ≡ w ∷ ws) → onto [] ns ≡ ns
    by [] some = absurd (let e = some.2 in cc)
    by (w ∷ ws) some = refl

pub cut_begins : (text : List ℕ) (names : List (List ℕ)) (name : List ℕ) → names ≡ [] → name ≡ [] → IsCut text names name text
cut_begins text names name none begun = sym ((λ i. none i ++ onto (begun i) (names_in text)) ∙ begun_empty text)

onto_more : (name : List ℕ) (byte : ℕ) (ns : List (List ℕ)) → onto name (onto (byte ∷ []) ns) ≡ onto (name ++ byte ∷ []) ns
onto_more name byte [] = refl
onto_more name byte (w ∷ ws) = ap (λ v. v ∷ ws) (sym (append_assoc name (byte ∷ []) w))

pub cut_on : (text : List ℕ) (names more : List (List ℕ)) (name next : List ℕ) (rest behind : List ℕ) (byte : ℕ) → rest ≡ byte ∷ behind → IsCut text names name rest → IsRead names name byte more next
    → IsCut text more next behind
cut_on text names more name next rest behind byte is was read = by (byte == 32) (was ∙ ap (λ r. names ++ onto name (names_in r)) is) read.0 read.1
  where
    by : (b : Bool) → names_in text ≡ names ++ onto name (cond b ([] ∷ names_in behind) (onto (byte ∷ []) (names_in behind))) → more ≡ cond b (names ++ name ∷ []) names → next ≡ cond b [] (name ++ byte ∷ [])
        → IsCut text more next behind
    by true cut m n =
        let whole : names_in text ≡ (names ++ name ∷ []) ++ names_in behind =
        cut ∙ ap (λ w. names ++ w ∷ names_in behind) (append-nil name) ∙ sym (append_assoc names (name ∷ []) (names_in behind)) in
        whole ∙ ap (λ ns. (names ++ name ∷ []) ++ ns) (sym (begun_empty behind)) ∙ sym (λ i. m i ++ onto (n i) (names_in behind))
    by false cut m n = cut ∙ ap (λ ns. names ++ ns) (onto_more name byte (names_in behind)) ∙ sym (λ i. m i ++ onto (n i) (names_in behind))

pub cut_ends : (text : List ℕ) (names : List (List ℕ)) (name : List ℕ) (all : List (List ℕ)) → IsCut text names name [] → all ≡ names ++ name ∷ [] → all ≡ names_in text
cut_ends text names name all was added = added ∙ ap (λ w. names ++ w ∷ []) (sym (append-nil name)) ∙ sym was

-- ---- names that were joined
not_blank : (byte : ℕ) → is_name_letter byte ≡ true → (byte == 32) ≡ false
not_blank byte h = grind (arith, nat_tests)

letters_of : (word : List ℕ) → is_name word ≡ true → list_all is_name_letter word ≡ true
unfolding is_name
letters_of word h = by (is_between 1 15 (length word)) (list_all is_name_letter word) h
  where
    by : (a b : Bool) → (a && b) ≡ true → b ≡ true
    by true b h = h
    by false b h = absurd cc

both : (a b : Bool) → (a && b) ≡ true → (a ≡ true) × (b ≡ true)
both true b h = (refl, h)
both false b h = absurd cc

name_alone : (word : List ℕ) → list_all is_name_letter word ≡ true → names_in word ≡ word ∷ []
name_alone [] h = refl
name_alone (byte ∷ more) h =
    let parts = both (is_name_letter byte) (list_all is_name_letter more) h in
    rw (not_blank byte parts.0, name_alone more parts.1) refl

name_first : (word rest : List ℕ) → list_all is_name_letter word ≡ true → names_in (word ++ 32 ∷ rest) ≡ word ∷ names_in rest
name_first [] rest h = refl
name_first (byte ∷ more) rest h =
    let parts = both (is_name_letter byte) (list_all is_name_letter more) h in
    rw (not_blank byte parts.0, name_first more rest parts.1) refl

names_back : (name : List ℕ) (names : List (List ℕ)) → list_all is_name (name ∷ names) ≡ true → names_in (joined (name ∷ names)) ≡ name ∷ names
names_back name [] h =
    let parts = both (is_name name) true h in
    ap names_in (append-nil name) ∙ name_alone name (letters_of name parts.0)
names_back name (other ∷ names) h =
    let parts = both (is_name name) (list_all is_name (other ∷ names)) h in
    name_first name (joined (other ∷ names)) (letters_of name parts.0) ∙ ap (λ ns. name ∷ ns) (names_back other names parts.1)

-- good devices are names, and at least one
good_back : (devices : List (List ℕ)) → IsTrue (devices_are_good devices) → names_in (joined devices) ≡ devices
unfolding devices_are_good
good_back [] h = absurd cc
good_back (name ∷ names) h =
    let count = nat_le 1 (length (name ∷ names)) && nat_le (length (name ∷ names)) 16 in
    let are_names = list_all is_name (name ∷ names) in
    names_back name names (both count are_names (both (count && are_names) (are_distinct (name ∷ names)) h).0).1

-- ---- terms
small_back : (n : ℕ) → n < 2 ^ 32 → nat_lt n (2 ^ 32) ≡ true
small_back n h = grind (arith, nat_tests)

-- limits of four numbers, of which one is to be an id
with_numbers : ℕ → ℕ → ℕ → ℕ → Option Limits
with_numbers journal budget id last_serial = option_and_then (λ (last_id : ℕ). Some (record { journal = journal; budget = budget; last_id = last_id; last_serial = last_serial })) (small id)

limits_back : (limits : Limits) (devices : List ℕ) → FitLimits limits → limits_in (terms_row limits devices) ≡ Some limits
unfolding with_numbers
limits_back limits devices fit =
    let id : limits.last_id < 2 ^ 64 = omega (arith, fit.last_id) in
    let journal = of_z-to_z w64 limits.journal fit.journal in
    let budget = of_z-to_z w64 limits.budget fit.budget in
    let last_id = of_z-to_z w64 limits.last_id id in
    let last_serial = of_z-to_z w64 limits.last_serial fit.last_serial in
    (λ k. with_numbers (journal k) (budget k) (last_id k) (last_serial k)) ∙ rw (small_back limits.last_id fit.last_id) refl

pub terms_good : (t : PlainTerms) → AreGood t → terms_of t.devices t.limits ≡ Some t
terms_good t good = rw (good.0, good.1) refl

told : (t : PlainTerms) → AreTerms t → terms_told (row_of_terms t) ≡ Some t
told t terms =
    ap (λ o. option_and_then (λ (limits : Limits). terms_of (names_in (joined t.devices)) limits) o) (limits_back t.limits (joined t.devices) terms.fit)
    ∙ ap (λ ds. terms_of ds t.limits) (good_back t.devices terms.good.0) ∙ terms_good t terms.good

pub terms_back : (t : PlainTerms) → AreTerms t → terms_by (row_of_terms t) ≡ Ok t
terms_back t terms =
    let low : format < 2 ^ 64 = omega arith in
    ap (terms_under (row_of_terms t)) (number_back (Some format) low) ∙ ap or_none (told t terms)

pub stored_back : (t : PlainTerms) → AreTerms t → terms_in (stored_terms t ∷ []) ≡ Ok t
stored_back t terms = terms_back t terms
