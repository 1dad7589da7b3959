-- The changes in force above a serial, one serial after the other.
use Rattle.std.proofs.Common.{◌≡◌, ℕ, ◌+◌, ◌<◌, ◌≤◌, ◌==◌, Bool, true, false, cond, List, [], ◌∷◌, ◌++◌, map as each, filter, find, option_map, option_to_list, nat_lt, Some, None, refl, sym, ◌∙◌, ap, arith}
use Rattle.std.proofs.lemmas.Bool.{eq-eqb, ne_eqb, ltb-true, ltb-false, lt-ltb, le-ltb}
use Rattle.host_state.specs.declared.change.Change.{Change}
use Rattle.journal_model.specs.Replay.{Entry}
use Rattle.journal_model.specs.Well.{Each}
use Rattle.journal_model.proofs.Lists.{Each-map}
use Rattle.bt_journal.specs.Serials.{SerialsRise, change_in}
use Rattle.bt_journal.proofs.SerialLemmas.{none_greater}
use Rattle.kept_event.specs.declared.event.KeptEvent.{KeptEvent}
use Rattle.kept_event.specs.declared.event.KeptEvent.TheVariants as kept
use Rattle.kept_book.specs.Noted.{kept_of}

abbrev pub above : ℕ → List Entry → List Entry
above k es = filter (λ (e : Entry). nat_lt k e.serial) es

-- none of them, and all of them
pub none_above : (k : ℕ) (es : List Entry) → Each (λ (e : Entry). e.serial ≤ k) es → above k es ≡ []
none_above k [] h = refl
none_above k (e ∷ es) h = ap (λ t. cond t (e ∷ above k es) (above k es)) (le-ltb k e.serial h.0) ∙ none_above k es h.1

pub all_above : (k : ℕ) (es : List Entry) → Each (λ (e : Entry). k < e.serial) es → above k es ≡ es
all_above k [] h = refl
all_above k (e ∷ es) h = ap (λ t. cond t (e ∷ above k es) (above k es)) (lt-ltb k e.serial h.0) ∙ ap (λ xs. e ∷ xs) (all_above k es h.1)

pub above-append : (k : ℕ) (xs ys : List Entry) → above k (xs ++ ys) ≡ above k xs ++ above k ys
above-append k [] ys = refl
above-append k (x ∷ xs) ys = by (nat_lt k x.serial) (above-append k xs ys)
  where
    by : (t : Bool) → above k (xs ++ ys) ≡ above k xs ++ above k ys → cond t (x ∷ above k (xs ++ ys)) (above k (xs ++ ys)) ≡ cond t (x ∷ above k xs) (above k xs) ++ above k ys
    by true rest = ap (λ zs. x ∷ zs) rest
    by false rest = rest

-- of those and a later one it is the later one
pub one_above : (k : ℕ) (es : List Entry) (new : Entry) → Each (λ (e : Entry). e.serial ≤ k) es → k < new.serial → above k (es ++ new ∷ []) ≡ new ∷ []
one_above k [] new h more = ap (λ t. cond t (new ∷ []) []) (lt-ltb k new.serial more)
one_above k (e ∷ es) new h more = ap (λ t. cond t (e ∷ above k (es ++ new ∷ [])) (above k (es ++ new ∷ []))) (le-ltb k e.serial h.0) ∙ one_above k es new h.1 more

-- the change of the next serial, if one has it, and those above that
abbrev next_kept : ℕ → List Entry → List KeptEvent
next_kept k es = option_to_list (option_map (λ (change : Change). kept.Changed (k + 1) change) (change_in (k + 1) es))

-- if the first of them has it or has not
abbrev as_next : ℕ → Entry → List Entry → Bool → List KeptEvent
as_next k e es t = option_to_list (option_map (λ (change : Change). kept.Changed (k + 1) change) (option_map (λ (x : Entry). x.change) (cond t (Some e) (find (λ (x : Entry). x.serial == (k + 1)) es))))

pub next_above : (k : ℕ) (es : List Entry) → SerialsRise es → each kept_of (above k es) ≡ next_kept k es ++ each kept_of (above (k + 1) es)
next_above k [] rise = refl
next_above k (e ∷ es) rise = by (nat_lt k e.serial) (nat_lt (k + 1) e.serial) refl refl (next_above k es rise.1)
  where
    same_rest : k < e.serial → k + 1 ≤ e.serial → above k es ≡ above (k + 1) es
    same_rest low high =
        all_above k es (Each-map (λ (x : Entry). e.serial < x.serial) (λ (x : Entry). k < x.serial) es (λ x later. omega (arith, low, later)) rise.0)
        ∙ sym (all_above (k + 1) es (Each-map (λ (x : Entry). e.serial < x.serial) (λ (x : Entry). k + 1 < x.serial) es (λ x later. omega (arith, high, later)) rise.0))

    by : (t u : Bool) → nat_lt k e.serial ≡ t → nat_lt (k + 1) e.serial ≡ u → each kept_of (above k es) ≡ next_kept k es ++ each kept_of (above (k + 1) es) →
        each kept_of (cond t (e ∷ above k es) (above k es)) ≡ as_next k e es (e.serial == (k + 1)) ++ each kept_of (cond u (e ∷ above (k + 1) es) (above (k + 1) es))
    by false u t_is u_is rest =
        let low : e.serial ≤ k = ltb-false k e.serial t_is in
        let no : u ≡ false = sym u_is ∙ le-ltb (k + 1) e.serial (omega (arith, low)) in
        let apart : (e.serial == (k + 1)) ≡ false = ne_eqb e.serial (k + 1) (λ same. omega (arith, low, same)) in
        rest ∙ sym (λ i. as_next k e es (apart i) ++ each kept_of (cond (no i) (e ∷ above (k + 1) es) (above (k + 1) es)))
    by true false t_is u_is rest =
        let low : k < e.serial = ltb-true k e.serial t_is in
        let high : e.serial ≤ k + 1 = ltb-false (k + 1) e.serial u_is in
        let same : e.serial ≡ k + 1 = omega (arith, low, high) in
        ap (λ xs. kept_of e ∷ each kept_of xs) (same_rest low (omega (arith, low)))
        ∙ ap (λ n. kept.Changed n e.change ∷ each kept_of (above (k + 1) es)) same
        ∙ sym (ap (λ t. as_next k e es t ++ each kept_of (above (k + 1) es)) (eq-eqb e.serial (k + 1) same))
    by true true t_is u_is rest =
        let low : k < e.serial = ltb-true k e.serial t_is in
        let more : k + 1 < e.serial = ltb-true (k + 1) e.serial u_is in
        let none : find (λ (x : Entry). x.serial == (k + 1)) es ≡ None =
        none_greater (k + 1) es (Each-map (λ (x : Entry). e.serial < x.serial) (λ (x : Entry). k + 1 < x.serial) es (λ x later. omega (arith, more, later)) rise.0) in
        let apart : (e.serial == (k + 1)) ≡ false = ne_eqb e.serial (k + 1) (λ same. omega (arith, more, same)) in
        ap (λ xs. kept_of e ∷ each kept_of xs) (same_rest low (omega (arith, more)))
        ∙ sym (ap (λ t. as_next k e es t ++ (kept_of e ∷ each kept_of (above (k + 1) es))) apart
        ∙ ap (λ o. option_to_list (option_map (λ (change : Change). kept.Changed (k + 1) change) (option_map (λ (x : Entry). x.change) o)) ++ (kept_of e ∷ each kept_of (above (k + 1) es))) none)
