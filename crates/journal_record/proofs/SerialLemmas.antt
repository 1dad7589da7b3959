-- Records in the order of their serials, and the one of a serial among them.
use Rattle.std.proofs.Common.{◌≡◌, ◌≢◌, ℕ, zero, suc, ◌<◌, ◌≤◌, ◌==◌, cond, List, [], ◌∷◌, length, get_or, take, drop, Option, Some, None, refl, sym, ◌∙◌, ap, subst, arith}
use Rattle.std.specs.Prelude.{find}
use Rattle.std.specs.Option.{option_map}
use Rattle.std.proofs.lemmas.Bool.{eq-eqb, ne_eqb}
use Rattle.std.proofs.lemmas.List.{drop_all, length-map}
use Rattle.host_state.specs.declared.change.Change.{Change}
use Rattle.journal_model.specs.Replay.{Entry}
use Rattle.journal_model.specs.Well.{Each}
use Rattle.journal_model.proofs.Lists.{Each-map}
use Rattle.journal_record.specs.Recorded.{Recorded}
use Rattle.journal_record.specs.Records.{entry_of, entries}
use Rattle.journal_record.specs.Serials.{SerialsRise, change_in}

-- ---- what stands at a place
Each-at : (P : Entry → Type 0) (rs : List Recorded) (i : ℕ) (r : Recorded) → i < length rs → r ≡ get_or rs i r → Each P (entries rs) → P r.entry
Each-at P [] i r within is h = absurd (omega (arith, within))
Each-at P (x ∷ xs) zero r within is h = subst (λ (q : Recorded). P q.entry) (sym is) h.0
Each-at P (x ∷ xs) (suc i) r within is h = Each-at P xs i r (omega (arith, within)) is h.1

from_here : (rs : List Recorded) (i : ℕ) (r : Recorded) → i < length rs → r ≡ get_or rs i r → drop i (entries rs) ≡ r.entry ∷ drop (suc i) (entries rs)
from_here [] i r within is = absurd (omega (arith, within))
from_here (x ∷ xs) zero r within is = ap (λ (q : Recorded). q.entry ∷ entries xs) (sym is)
from_here (x ∷ xs) (suc i) r within is = from_here xs i r (omega (arith, within)) is

-- ---- in the order of their serials
-- if one has a smaller serial, so have all before it
pub smaller : (serial : ℕ) (rs : List Recorded) (i : ℕ) (r : Recorded) → i < length rs → r ≡ get_or rs i r → r.entry.serial < serial → SerialsRise (entries rs) → Each (λ (e : Entry). e.serial < serial) (take (suc i) (entries rs))
smaller serial [] i r within is less rise = absurd (omega (arith, within))
smaller serial (x ∷ xs) zero r within is less rise = (subst (λ (q : Recorded). q.entry.serial < serial) is less, tt)
smaller serial (x ∷ xs) (suc i) r within is less rise =
    let later : x.entry.serial < r.entry.serial = Each-at (λ (e : Entry). x.entry.serial < e.serial) xs i r (omega (arith, within)) is rise.0 in
    (omega (arith, later, less), smaller serial xs i r (omega (arith, within)) is less rise.1)

-- and if one has not, nor has any after it
pub not_smaller : (serial : ℕ) (rs : List Recorded) (i : ℕ) (r : Recorded) → i < length rs → r ≡ get_or rs i r → serial ≤ r.entry.serial → SerialsRise (entries rs) → Each (λ (e : Entry). serial ≤ e.serial) (drop i (entries rs))
not_smaller serial [] i r within is more rise = absurd (omega (arith, within))
not_smaller serial (x ∷ xs) zero r within is more rise =
    let here : serial ≤ x.entry.serial = subst (λ (q : Recorded). serial ≤ q.entry.serial) is more in
    (here, Each-map (λ (e : Entry). x.entry.serial < e.serial) (λ (e : Entry). serial ≤ e.serial) (entries xs) (λ e later. omega (arith, here, later)) rise.0)
not_smaller serial (x ∷ xs) (suc i) r within is more rise = not_smaller serial xs i r (omega (arith, within)) is more rise.1

-- those after one have greater serials
greater_behind : (rs : List Recorded) (i : ℕ) (r : Recorded) → i < length rs → r ≡ get_or rs i r → SerialsRise (entries rs) → Each (λ (e : Entry). r.entry.serial < e.serial) (drop (suc i) (entries rs))
greater_behind [] i r within is rise = absurd (omega (arith, within))
greater_behind (x ∷ xs) zero r within is rise = subst (λ (q : Recorded). Each (λ (e : Entry). q.entry.serial < e.serial) (entries xs)) (sym is) rise.0
greater_behind (x ∷ xs) (suc i) r within is rise = greater_behind xs i r (omega (arith, within)) is rise.1

-- ---- the one of a serial
-- it is none of those with smaller serials
past_smaller : (serial : ℕ) (es : List Entry) (i : ℕ) → Each (λ (e : Entry). e.serial < serial) (take i es) → find (λ (e : Entry). e.serial == serial) es ≡ find (λ (e : Entry). e.serial == serial) (drop i es)
past_smaller serial [] zero h = refl
past_smaller serial [] (suc i) h = refl
past_smaller serial (e ∷ es) zero h = refl
past_smaller serial (e ∷ es) (suc i) h =
    let less : e.serial < serial = h.0 in
    ap (λ b. cond b (Some e) (find (λ (e : Entry). e.serial == serial) es)) (ne_eqb e.serial serial (λ same. omega (arith, less, same)))
    ∙ past_smaller serial es i h.1

-- nor of those with greater ones
pub none_greater : (serial : ℕ) (es : List Entry) → Each (λ (e : Entry). serial < e.serial) es → find (λ (e : Entry). e.serial == serial) es ≡ None
none_greater serial [] h = refl
none_greater serial (e ∷ es) h =
    let more : serial < e.serial = h.0 in
    ap (λ b. cond b (Some e) (find (λ (e : Entry). e.serial == serial) es)) (ne_eqb e.serial serial (λ same. omega (arith, more, same)))
    ∙ none_greater serial es h.1

abbrev ChangeIn : ℕ → List Entry → Option Change → Type 0
ChangeIn serial es change = change ≡ change_in serial es

-- all have smaller serials
pub none_left : (serial : ℕ) (rs : List Recorded) (i : ℕ) → Each (λ (e : Entry). e.serial < serial) (take i (entries rs)) → length rs ≤ i → ChangeIn serial (entries rs) None
none_left serial rs i h all =
    let long : length (entries rs) ≤ i = subst (λ n. n ≤ i) (sym (length-map rs entry_of)) all in
    sym (ap (option_map (λ (e : Entry). e.change)) (past_smaller serial (entries rs) i h ∙ ap (find (λ (e : Entry). e.serial == serial)) (drop_all i (entries rs) long)))

-- the first that has not has the serial
pub found_here : (serial : ℕ) (rs : List Recorded) (i : ℕ) (r : Recorded) → i < length rs → r ≡ get_or rs i r → Each (λ (e : Entry). e.serial < serial) (take i (entries rs)) → r.entry.serial ≡ serial → ChangeIn serial (entries rs) (Some r.entry.change)
found_here serial rs i r within is h same =
    let rest : List Entry = drop (suc i) (entries rs) in
    sym (ap (option_map (λ (e : Entry). e.change))
    (past_smaller serial (entries rs) i h
    ∙ ap (find (λ (e : Entry). e.serial == serial)) (from_here rs i r within is)
    ∙ ap (λ b. cond b (Some r.entry) (find (λ (e : Entry). e.serial == serial) rest)) (eq-eqb r.entry.serial serial same)))

-- or a greater one, and then none has it
pub passed_over : (serial : ℕ) (rs : List Recorded) (i : ℕ) (r : Recorded) → i < length rs → r ≡ get_or rs i r → SerialsRise (entries rs) → Each (λ (e : Entry). e.serial < serial) (take i (entries rs)) → Each (λ (e : Entry). serial ≤ e.serial) (drop i (entries rs))
    → r.entry.serial ≢ serial → ChangeIn serial (entries rs) None
passed_over serial rs i r within is rise h others apart =
    let rest : List Entry = drop (suc i) (entries rs) in
    let from : serial ≤ r.entry.serial = (subst (Each (λ (e : Entry). serial ≤ e.serial)) (from_here rs i r within is) others).0 in
    let more : serial < r.entry.serial = omega (arith, from, apart) in
    let behind : Each (λ (e : Entry). serial < e.serial) rest =
    Each-map (λ (e : Entry). r.entry.serial < e.serial) (λ (e : Entry). serial < e.serial) rest (λ e later. omega (arith, more, later)) (greater_behind rs i r within is rise) in
    sym (ap (option_map (λ (e : Entry). e.change))
    (past_smaller serial (entries rs) i h
    ∙ ap (find (λ (e : Entry). e.serial == serial)) (from_here rs i r within is)
    ∙ none_greater serial (r.entry ∷ rest) (more, behind)))
