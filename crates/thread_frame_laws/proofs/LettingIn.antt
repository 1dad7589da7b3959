-- A program that is let in was verified against the attributes of live maps.
use Rattle.std.proofs.Common.{◌≡◌, ℕ, zero, suc, Bool, true, false, cond, T, List, [], ◌∷◌, map as each, Contains, Option, Some, None, refl, sym, ◌∙◌, ap, subst, arith}
use Rattle.std.specs.List.{filter}
use Rattle.std.proofs.lemmas.List.Elements.{Contains-append_right}
use Rattle.std.specs.declared.cmp.Ordering.{Ordering}
use Rattle.std.specs.declared.cmp.Ordering.TheVariants.{Less, Equal, Greater}
use Rattle.std.specs.Ordering.{nat_cmp, is_eq, is_lt, eq_by_cmp}
use Rattle.std.specs.FinMap as map
use Rattle.std.specs.FinMap.{find}
use Rattle.std.specs.FinMap.Entries.{is_sorted, below_all}
use Rattle.bt_mapkind.specs.declared.attr.MapAttr.{MapAttr}
use Rattle.bt_mapkind.proofs.Stays.{both_true}
use Rattle.bt_verify.specs.Verified.{Checked}
use Rattle.bt_verify.proofs.Members.{found_in}
use Rattle.bt_objects.specs.ById.{ById}
use Rattle.host_state.specs.State.{HostMap, State}
use Rattle.host_state.specs.Ask.{row_of, rows_of, ask}
use Rattle.host_state.proofs.ByIdLemmas.{same_of, is_itself}
use Rattle.host_state.proofs.LinkedLemmas.{from_each}
use Rattle.journal_model.specs.Book.{PlainBook, state_of}
use Rattle.console_reference.specs.Programs.{pair_of, live_maps}
use Rattle.journal_known_maps.specs.Known.{HaveAttributes}
use Rattle.thread_frame_laws.specs.LetIn.{IsLetInOnThem}

-- ---- entries by id
none_below : {X : Type 0} (k : ℕ) (es : List (ℕ × X)) → below_all nat_cmp k es ≡ true → find nat_cmp k es ≡ None
none_below k [] below = refl
none_below {X} k (e ∷ es) below =
    let p = both_true (is_lt (nat_cmp k e.0)) (below_all nat_cmp k es) below in
    ap (λ b. cond b (Some e.1) (find nat_cmp k es)) (apart (nat_cmp k e.0) p.0) ∙ none_below k es p.1
  where
    apart : (o : Ordering) → is_lt o ≡ true → is_eq o ≡ false
    apart Less less = refl
    apart Equal less = cc
    apart Greater less = cc

found_at : {X : Type 0} (es : List (ℕ × X)) → is_sorted nat_cmp es ≡ true → (e : ℕ × X) → Contains es e → find nat_cmp e.0 es ≡ Some e.1
found_at [] sorted e (k, lt, is) = absurd (omega (arith, lt))
found_at {X} (x ∷ es) sorted e (zero, lt, is) =
    subst (λ (y : ℕ × X). find nat_cmp y.0 (x ∷ es) ≡ Some y.1) is (ap (λ b. cond b (Some x.1) (find nat_cmp x.0 es)) (is_itself x.0))
found_at {X} (x ∷ es) sorted e (suc k, lt, is) =
    let p = both_true (below_all nat_cmp x.0 es) (is_sorted nat_cmp es) sorted in
    behind p.0 (found_at es p.1 e (k, omega (arith, lt), is)) (eq_by_cmp nat_cmp e.0 x.0) refl
  where
    behind : below_all nat_cmp x.0 es ≡ true → find nat_cmp e.0 es ≡ Some e.1 → (b : Bool) → eq_by_cmp nat_cmp e.0 x.0 ≡ b → cond b (Some x.1) (find nat_cmp e.0 es) ≡ Some e.1
    behind below found true tied = cc (sym (none_below x.0 es below) ∙ sym (ap (λ q. find nat_cmp q es) (same_of e.0 x.0 tied)) ∙ found)
    behind below found false apart = found

sorted_true : (b : Bool) → T b → b ≡ true
sorted_true true t = refl
sorted_true false t = absurd t

entry_there : (m : ById HostMap) (e : ℕ × HostMap) → Contains (map.entries m) e → map.get m e.0 ≡ Some e.1
entry_there m e has = map.get-entries m e.0 ∙ found_at (map.entries m) (sorted_true (is_sorted nat_cmp (map.entries m)) (map.entries_sorted m)) e has

-- what passes a test was there
was_there : {X : Type 0} (test : X → Bool) (xs : List X) (x : X) → Contains (filter test xs) x → Contains xs x
was_there test [] x has = has
was_there {X} test (y ∷ ys) x has = by (test y) has (λ later. was_there test ys x later)
  where
    by : (b : Bool) → Contains (cond b (y ∷ filter test ys) (filter test ys)) x → (Contains (filter test ys) x → Contains ys x) → Contains (y ∷ ys) x
    by true (zero, lt, is) on = (zero, omega arith, is)
    by true (suc k, lt, is) on = Contains-append_right (y ∷ []) ys x (on (k, omega (arith, lt), is))
    by false later on = Contains-append_right (y ∷ []) ys x (on later)

-- ---- the live maps
listed_have : (maps : ℕ → Option MapAttr) (s : State) → HaveAttributes maps s → (m : ℕ × MapAttr) → Contains (each pair_of (rows_of s.maps)) m → maps m.0 ≡ Some m.1
listed_have maps s attrs m has =
    let shown = from_each pair_of (rows_of s.maps) m has in
    let entry = from_each row_of (filter (λ (e : ℕ × HostMap). e.1.live) (map.entries s.maps)) shown.0 shown.1 in
    let there : map.get s.maps entry.0.0 ≡ Some entry.0.1 = entry_there s.maps entry.0 (was_there (λ (e : ℕ × HostMap). e.1.live) (map.entries s.maps) entry.0 entry.1) in
    subst (λ (pair : ℕ × MapAttr). maps pair.0 ≡ Some pair.1) (sym (shown.2 ∙ ap pair_of entry.2)) (attrs entry.0.0 entry.0.1 there)

live_have : (maps : ℕ → Option MapAttr) (b : PlainBook) → HaveAttributes maps (state_of b) → (m : ℕ × MapAttr) → Contains (live_maps b) m → maps m.0 ≡ Some m.1
unfolding ask
live_have maps b attrs m has = listed_have maps (state_of b) attrs m has

pub let_in : (maps : ℕ → Option MapAttr) (b : PlainBook) (bytes : List ℕ) (code : Checked) → IsLetInOnThem maps b bytes code
let_in maps b bytes code attrs it id attr found = live_have maps b attrs (id, attr) ((it.named.exactly (id, attr)).0 (found_in code.maps id attr found)).0
