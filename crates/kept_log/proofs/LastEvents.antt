-- What the question for the last events shows, and what is read of it.
use Rattle.std.proofs.Common.{◌≡◌, inl, ℕ, zero, suc, ◌+◌, ◌-◌, ◌<◌, ◌≤◌, pos, List, [], ◌∷◌, ◌++◌, length, map, take, drop, reverse, flat_map, Option, Some, None, Ok, Err, Result, refl, sym, ap, subst, ◌∙◌, arith, Less, IsPermutation, ⊎_elim, IfErr}
use Rattle.std.specs.List.{AllByRecursion}
use Rattle.std.proofs.lemmas.Bool.{cases_lt}
use Rattle.std.proofs.lemmas.List.{append-nil, append_assoc, map-append, reverse-append, reverse-reverse, take-append-drop, take-append-le, take_all, length-drop, length-reverse, nil_from_length}
use Rattle.std.proofs.lemmas.List.Sorted.{IsPermutation-trans, IsPermutation-sym, IsPermutation-reverse}
use Rattle.sqlite_value.specs.declared.value.Value.TheVariants.{Null, Int}
use Rattle.sqlite_value.specs.Order.{Row as Values}
use Rattle.sqlite_trees.specs.Tree.{IsAscending}
use Rattle.sqlite_trees.proofs.ListLemmas.{all_weaker, all-permutation, ascending-append}
use Rattle.sqlite_sql.specs.Query.{IsAnswer, output, output_cmp, page, limited, as_count, Output}
use Rattle.sqlite_sql.specs.Program.{overlay}
use Rattle.sqlite_sql.proofs.QueryLemmas.{output_cmp_total}
use Rattle.sqlite_keyed.proofs.SortLemmas.{sorted_unique}
use Rattle.sqlite.specs.State.{State, Shown}
use Rattle.sqlite.proofs.Callers.{reads_as}
use Rattle.kept_event.specs.Row.{row_of}
use Rattle.kept_ledger.specs.declared.fault.ReadFault.{ReadFault}
use Rattle.kept_ledger.specs.declared.fault.ReadFault.TheVariants.{Sql}
use Rattle.kept_log.specs.declared.timed.TimedEvent.{TimedEvent}
use Rattle.kept_ledger.specs.Table.{ledger_schema}
use Rattle.kept_ledger.specs.TermsView.{PlainTerms}
use Rattle.kept_ledger.specs.Ledger.{Entry, AreKept, rows_from, HoldEntries, TellsSql}
use Rattle.kept_log.specs.Timed.{entry_of, entries_of, limit_of, last_within, last_of, last_text, limit_number, last_params, shown_timed, IsTimed, AreTimed, TellsMemory}
use Rattle.kept_ledger.proofs.Places.{below}
use Rattle.kept_ledger.proofs.ColumnsRead.{number_back, row_back}
use Rattle.kept_log.proofs.LastText.{last_query, last_is}

-- ---- lists turned round
map_reverse : {A B : Type 0} (f : A → B) (xs : List A) → map f (reverse xs) ≡ reverse (map f xs)
map_reverse f [] = refl
map_reverse f (x ∷ xs) =
    ap (map f) (reverse-append (x ∷ []) xs) ∙ map-append f (reverse xs) (x ∷ []) ∙ ap (λ ys. ys ++ f x ∷ []) (map_reverse f xs) ∙ sym (reverse-append (f x ∷ []) (map f xs))

-- the last so many, from the end on and back
turned_within : {X : Type 0} (n : ℕ) (xs : List X) → n ≤ length xs → reverse (take n (reverse xs)) ≡ drop (length xs - n) xs
turned_within n xs le =
    let m : ℕ = length xs - n in
    let parts : reverse xs ≡ reverse (drop m xs) ++ reverse (take m xs) = ap reverse (sym (take-append-drop m xs)) ∙ reverse-append (take m xs) (drop m xs) in
    let last = reverse (drop m xs) in
    let long : length last ≡ n = omega (arith, le, length-reverse (drop m xs), length-drop m xs) in
    let front : take n (last ++ reverse (take m xs)) ≡ last = take-append-le n last (reverse (take m xs)) (omega (arith, long)) ∙ take_all n last (omega (arith, long)) in
    ap (λ ys. reverse (take n ys)) parts ∙ ap reverse front ∙ reverse-reverse (drop m xs)

turned_past : {X : Type 0} (n : ℕ) (xs : List X) → length xs < n → reverse (take n (reverse xs)) ≡ drop (length xs - n) xs
turned_past n xs lt =
    let none : length xs - n ≡ 0 = omega (arith, lt) in
    ap reverse (take_all n (reverse xs) (omega (arith, lt, length-reverse xs))) ∙ reverse-reverse xs ∙ ap (λ m. drop m xs) (sym none)

pub turned : {X : Type 0} (most : Option ℕ) (xs : List X) → reverse (limited most (reverse xs)) ≡ last_within most xs
turned None xs = reverse-reverse xs
turned (Some n) xs = ⊎_elim (turned_past n xs) (turned_within n xs) (cases_lt (length xs) n)

-- ---- what the question shows
abbrev timed_output : ℕ → Entry → Output
timed_output k e = (Int (pos k) ∷ [], shown_timed k e)

abbrev outputs_from : ℕ → List Entry → List Output
outputs_from k [] = []
outputs_from k (e ∷ es) = timed_output k e ∷ outputs_from (k + 1) es

abbrev timed_from : ℕ → List Entry → List Values
timed_from k es = map (λ (o : Output). o.1) (outputs_from k es)

outputs_are : (ps : Values) (k : ℕ) (es : List Entry) → map (output last_query) (flat_map (λ (r : Values). ((ps ∷ []) ++ r ∷ []) ∷ []) (rows_from k es)) ≡ outputs_from k es
outputs_are ps k [] = refl
outputs_are ps k (e ∷ es) = ap (λ more. timed_output k e ∷ more) (outputs_are ps (k + 1) es)

abbrev Falls : Output → Output → Type 0
Falls a b = output_cmp last_query a b ≡ Less

above : (k m : ℕ) (e : Entry) (es : List Entry) → k < m → AllByRecursion (λ b. Falls b (timed_output k e)) (outputs_from m es)
above k m e [] h = tt
above k m e (next ∷ es) h = (rw (below k m h) refl, above k (m + 1) e es (omega (arith, h)))

falls : (k : ℕ) (es : List Entry) → IsAscending Falls (reverse (outputs_from k es))
falls k [] = tt
falls k (e ∷ es) =
    let more = outputs_from (k + 1) es in
    let o = timed_output k e in
    let last = all-permutation (λ b. Falls b o) more (reverse more) (IsPermutation-reverse more) (above k (k + 1) e es (omega arith)) in
    let before = all_weaker (λ b. Falls b o) (λ b. AllByRecursion (Falls b) (o ∷ [])) (λ b h. (h, tt)) (reverse more) last in
    subst (IsAscending Falls) (sym (reverse-append (o ∷ []) more)) (ascending-append Falls (reverse more) (o ∷ []) (falls (k + 1) es) (tt, tt) before)

counted : (most : Option ℕ) → as_count (Int (limit_number most)) ≡ most
counted None = refl
counted (Some n) = refl

module _ (t : PlainTerms) where
  pub last_shows : (old new : State) (es : List Entry) (most : Option ℕ) (rows : List Values) → old.now.schema ≡ ledger_schema → HoldEntries t es old.now.trees
      → Shown last_text (last_params most) old new rows → rows ≡ limited (limit_of most) (reverse (timed_from 1 es))
  last_shows old new es most rows has held h =
      let ps = last_params most in
      let answers = reads_as last_text ps old new ledger_schema has _ last_is.0 last_is.2 last_is.1 rows h in
      let a : IsAnswer last_query (overlay old.now.trees []) ps rows = answers.answer Null in
      let all : map (output last_query) a.staged ≡ outputs_from 1 es = ap (map (output last_query)) a.grouped ∙ rw held.rows (outputs_are ps 1 es) in
      let kept : a.kept ≡ outputs_from 1 es = a.distinct ∙ all in
      let back = IsPermutation-sym _ _ (IsPermutation-reverse (outputs_from 1 es)) in
      let same = IsPermutation-trans _ _ _ back (subst (λ k. IsPermutation k a.ordered) kept a.same) in
      let ordered : a.ordered ≡ reverse (outputs_from 1 es) = sorted_unique (output_cmp last_query) (output_cmp_total last_query) _ a.ordered (falls 1 es) same a.sorted in
      a.shown ∙ ap (λ xs. page last_query ps (map (λ (p : Output). p.1) xs)) ordered
      ∙ ap (page last_query ps) (map_reverse (λ (p : Output). p.1) (outputs_from 1 es)) ∙ ap (λ n. limited n (reverse (timed_from 1 es))) (counted (limit_of most))

-- ---- what rows show
are_timed : (k : ℕ) (es : List Entry) → AreKept es → AreTimed (timed_from k es) es
are_timed k [] kept = tt
are_timed k (e ∷ es) kept = (
  record { time = number_back (Some e.time) kept.0.timed; row = row_back (Int (pos k)) (row_of e.event) kept.0.fits; bounded = kept.0.bounded },
  are_timed (k + 1) es kept.1,
)

same_length : (k : ℕ) (es : List Entry) → length (timed_from k es) ≡ length es
same_length k [] = refl
same_length k (e ∷ es) = ap suc (same_length (k + 1) es)

timed-drop : (n : ℕ) (rows : List Values) (es : List Entry) → AreTimed rows es → AreTimed (drop n rows) (drop n es)
timed-drop zero rows es h = h
timed-drop (suc n) [] [] h = tt
timed-drop (suc n) [] (e ∷ es) h = absurd h
timed-drop (suc n) (row ∷ rows) [] h = absurd h
timed-drop (suc n) (row ∷ rows) (e ∷ es) h = timed-drop n rows es h.1

timed_within : (most : Option ℕ) (es : List Entry) → AreKept es → AreTimed (last_within most (timed_from 1 es)) (last_within most es)
timed_within None es kept = are_timed 1 es kept
timed_within (Some n) es kept =
    subst (λ m. AreTimed (drop (m - n) (timed_from 1 es)) (drop (length es - n) es)) (sym (same_length 1 es)) (timed-drop (length es - n) (timed_from 1 es) es (are_timed 1 es kept))

pub last_timed : (es : List Entry) (most : Option ℕ) (rows turned_rows : List Values) → AreKept es → rows ≡ limited (limit_of most) (reverse (timed_from 1 es)) → turned_rows ≡ reverse rows
    → AreTimed turned_rows (last_of most es)
last_timed es most rows turned_rows kept are back =
    subst (λ r. AreTimed r (last_of most es)) (sym (back ∙ ap reverse are ∙ turned (limit_of most) (timed_from 1 es))) (timed_within (limit_of most) es kept)

-- ---- rows that are read
-- some events are read, and the rest shows the others
pub record IsReadTo (es : List Entry) (done : List TimedEvent) (rest : List Values) : Type 0 where
  pub tail : List Entry
  pub parts : entries_of done ++ tail ≡ es
  pub timed : AreTimed rest tail

-- the next of them
pub record NextTimed (es : List Entry) (done : List TimedEvent) (row : Values) (behind : List Values) : Type 0 where
  pub entry : Entry
  pub tail : List Entry
  pub parts : entries_of done ++ entry ∷ tail ≡ es
  pub timed : IsTimed row entry
  pub after : AreTimed behind tail

pub next_timed : (es : List Entry) (done : List TimedEvent) (rest : List Values) (row : Values) (behind : List Values) → rest ≡ row ∷ behind → IsReadTo es done rest → NextTimed es done row behind
next_timed es done rest row behind cut was = from was.tail was.parts (subst (λ r. AreTimed r was.tail) cut was.timed)
  where
    from : (tail : List Entry) → entries_of done ++ tail ≡ es → AreTimed (row ∷ behind) tail → NextTimed es done row behind
    from [] parts timed = absurd timed
    from (e ∷ tail) parts timed = record { entry = e; tail = tail; parts = parts; timed = timed.0; after = timed.1 }

pub one_read : (es : List Entry) (done new : List TimedEvent) (row : Values) (behind : List Values) (n : NextTimed es done row behind) (it : TimedEvent) → entry_of it ≡ n.entry → new ≡ done ++ it ∷ []
    → IsReadTo es new behind
one_read es done new row behind n it same added = record {
  tail = n.tail;
  parts =
      ap (λ read. entries_of read ++ n.tail) added ∙ ap (λ read. read ++ n.tail) (map-append entry_of done (it ∷ [])) ∙ append_assoc (entries_of done) (entry_of it ∷ []) n.tail
      ∙ ap (λ e. entries_of done ++ e ∷ n.tail) same ∙ n.parts;
  timed = n.after;
}

pub all_read : (es : List Entry) (done : List TimedEvent) (rest : List Values) → length rest ≡ 0 → IsReadTo es done rest → entries_of done ≡ es
all_read es done rest none was = from was.tail was.parts (subst (λ r. AreTimed r was.tail) (nil_from_length rest none) was.timed)
  where
    from : (tail : List Entry) → entries_of done ++ tail ≡ es → AreTimed [] tail → entries_of done ≡ es
    from [] parts timed = sym (append-nil (entries_of done)) ∙ parts
    from (e ∷ tail) parts timed = absurd timed

-- ---- what is answered
pub memory_sql : {A : Type 0} (text : List ℕ) (params : Values) (old new : State) (r : Result A ReadFault) → IfErr r TellsMemory → IfErr r (TellsSql text params old new)
memory_sql text params old new (Ok read) h = tt
memory_sql text params old new (Err (Sql error)) h = inl h
memory_sql text params old new (Err _) h = tt
