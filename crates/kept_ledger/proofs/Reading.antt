-- What questions to the tables show.
use Rattle.std.proofs.Common.{◌≡◌, ◌⊎◌, ℕ, suc, pos, inl, inr, Bool, true, false, nat_lt, List, [], ◌∷◌, ◌++◌, length, map, flat_map, Option, Some, None, Ok, Err, Result, refl, sym, ap, ap₂, subst, ◌∙◌, arith, Less, Equal, Greater, Ordering, is_lt, is_err, ◌+◌, ◌<◌, OnOk, IsPermutation, IsSorted, add-one, if◌then◌else◌}
use Rattle.std.specs.Prelude.{Vec, MatchResult, IfOk, IfErr}
use Rattle.std.specs.declared.alloc.Global.{Global}
use Rattle.std.specs.List.{AllByRecursion}
use Rattle.std.proofs.lemmas.List.{nil_from_length}
use Rattle.std.specs.Ordering.{ordering_then}
use Rattle.std.proofs.lemmas.List.Sorted.{length_permutation, IsPermutation-map}
use Rattle.sqlite_value.specs.declared.value.Value.TheVariants.{Null, Int}
use Rattle.sqlite_value.specs.Order.{Row as Values, column, value_cmp}
use Rattle.sqlite_trees.specs.Tree.{IsAscending}
use Rattle.sqlite_trees.proofs.ListLemmas.{all-permutation}
use Rattle.sqlite_sql.specs.Query.{IsAnswer, output, output_cmp, page, Output}
use Rattle.sqlite_sql.specs.Program.{overlay}
use Rattle.sqlite_sql.proofs.QueryLemmas.{output_cmp_total}
use Rattle.sqlite_keyed.proofs.SortLemmas.{sorted_unique}
use Rattle.sqlite.specs.Listing.{understood}
use Rattle.sqlite.specs.Effect.{Database}
use Rattle.sqlite.specs.declared.error.Error.{Error}
use Rattle.sqlite.specs.declared.error.Error.TheVariants.{SqlInputError}
use Rattle.sqlite.specs.State.{State, HasCleanDisk, Survives, CommitsShowing, FailsToQuery, Shown, IsUnchanged}
use Rattle.sqlite.proofs.StateLemmas.{survives_weaker}
use Rattle.sqlite.proofs.Callers.{IsPlain, reads_as, one_permutation, never_commits}
use Rattle.kept_event.specs.declared.event.KeptEvent.{KeptEvent}
use Rattle.kept_ledger.specs.declared.fault.ReadFault.{ReadFault}
use Rattle.kept_ledger.specs.declared.fault.ReadFault.TheVariants.{Sql, DoesNotFit, NoBook, LaterFormat, NoTerms}
use Rattle.kept_ledger.specs.Faults.{IsSqlFault, IsWant, query_fault}
use Rattle.kept_ledger.specs.Table.{no_schema, ledger_schema}
use Rattle.kept_ledger.specs.TermsView.{PlainTerms}
use Rattle.kept_ledger.specs.TermsRow.{format, shown_terms, terms_told, or_none, terms_under, terms_shown, terms_in, ReadsAs, TellsAs}
use Rattle.kept_ledger.specs.Ledger.{Entry, shown, rows_from, shown_from, HoldEntries, IsLedgerOf, IsLedger, TellsSql, OnlyReads}
use Rattle.kept_ledger.specs.Columns.{number_in}
use Rattle.kept_ledger.specs.Rows.{ShowFrom, TellsRows, shown_row, Rise, AreInOrder, ReadsTable}
use Rattle.kept_ledger.proofs.Places.{below}
use Rattle.kept_ledger.proofs.Texts.{read_text, read_is, read_plain, query, read_terms_text, read_terms_is, read_terms_plain, terms_query}
use Rattle.kept_ledger.proofs.Statements.{query_faults, never_shown, told_either}
use Rattle.kept_ledger.proofs.TermsBack.{stored_back}

-- ---- the events
abbrev outputs_from : ℕ → List Entry → List Output
outputs_from k [] = []
outputs_from k (e ∷ es) = (Int (pos k) ∷ [], shown k e) ∷ outputs_from (k + 1) es

outputs_are : (k : ℕ) (es : List Entry) → map (output query) (flat_map (λ (r : Values). (([] ∷ []) ++ r ∷ []) ∷ []) (rows_from k es)) ≡ outputs_from k es
outputs_are k [] = refl
outputs_are k (e ∷ es) = ap (λ more. (Int (pos k) ∷ [], shown k e) ∷ more) (outputs_are (k + 1) es)

above : (k m : ℕ) (e : Entry) (es : List Entry) → k < m → AllByRecursion (λ b. output_cmp query (Int (pos k) ∷ [], shown k e) b ≡ Less) (outputs_from m es)
above k m e [] h = tt
above k m e (next ∷ es) h = (rw (below k m h) refl, above k (m + 1) e es (omega (arith, h)))

rises : (k : ℕ) (es : List Entry) → IsAscending (λ a b. output_cmp query a b ≡ Less) (outputs_from k es)
rises k [] = tt
rises k (e ∷ es) = (above k (k + 1) e es (omega arith), rises (k + 1) es)

all_shown : (k : ℕ) (es : List Entry) → map (λ (o : Output). o.1) (outputs_from k es) ≡ shown_from k es
all_shown k [] = refl
all_shown k (e ∷ es) = ap (λ more. shown k e ∷ more) (all_shown (k + 1) es)

-- ---- the terms
abbrev shown_outputs : List Values → List Output
shown_outputs [] = []
shown_outputs (row ∷ rows) = ([], shown_terms row) ∷ shown_outputs rows

are_shown : (rows : List Values) → map (output terms_query) (flat_map (λ (r : Values). (([] ∷ []) ++ r ∷ []) ∷ []) rows) ≡ shown_outputs rows
are_shown [] = refl
are_shown (row ∷ rows) = ap (λ more. ([], shown_terms row) ∷ more) (are_shown rows)

as_shown : (rows : List Values) → map (λ (o : Output). o.1) (shown_outputs rows) ≡ map shown_terms rows
as_shown [] = refl
as_shown (row ∷ rows) = ap (λ more. shown_terms row ∷ more) (as_shown rows)

abbrev rows_of : List Output → List Values
rows_of = map (λ (o : Output). o.1)

none_of_two : (xs : List Output) (n : ℕ) → length xs ≡ n + 2 → terms_shown (rows_of xs) ≡ Err NoTerms
none_of_two [] n e = absurd (omega (arith, e))
none_of_two (x ∷ []) n e = absurd (omega (arith, e))
none_of_two (x ∷ y ∷ more) n e = refl

-- one row is the same in any order
same_in_order : (xs ys : List Output) → IsPermutation xs ys → terms_shown (rows_of ys) ≡ terms_shown (rows_of xs)
same_in_order [] ys p = ap (λ zs. terms_shown (rows_of zs)) (nil_from_length ys (length_permutation [] ys p))
same_in_order (x ∷ []) ys p = ap (λ zs. terms_shown (rows_of zs)) (one_permutation x ys p)
same_in_order (x ∷ y ∷ more) ys p = none_of_two ys (length more) (length_permutation (x ∷ y ∷ more) ys p ∙ omega arith)

pub terms_read : (old new : State) (rows : List Values) → old.now.schema ≡ ledger_schema → Shown read_terms_text [] old new rows → terms_shown rows ≡ terms_in (old.now.trees 1)
terms_read old new rows has h =
    let answers = reads_as read_terms_text [] old new ledger_schema has _ read_terms_is.0 read_terms_plain read_terms_is.1 rows h in
    let a : IsAnswer terms_query (overlay old.now.trees []) [] rows = answers.answer Null in
    let kept : a.kept ≡ shown_outputs (old.now.trees 1) = a.distinct ∙ ap (map (output terms_query)) a.grouped ∙ are_shown (old.now.trees 1) in
    ap terms_shown a.shown ∙ same_in_order a.kept a.ordered a.same ∙ ap (λ xs. terms_shown (rows_of xs)) kept ∙ ap terms_shown (as_shown (old.now.trees 1))

-- ---- the rows of the table of events, whatever they are
abbrev place_output : Values → Output
place_output row = (column row 0 ∷ [], shown_row row)

any_outputs : (rows : List Values) → map (output query) (flat_map (λ (r : Values). (([] ∷ []) ++ r ∷ []) ∷ []) rows) ≡ map place_output rows
any_outputs [] = refl
any_outputs (row ∷ rows) = ap (λ more. place_output row ∷ more) (any_outputs rows)

any_shown : (rows : List Values) → map (λ (o : Output). o.1) (map place_output rows) ≡ map shown_row rows
any_shown [] = refl
any_shown (row ∷ rows) = ap (λ more. shown_row row ∷ more) (any_shown rows)

-- an output is put in order by the place that it shows
abbrev IsPlaced : Output → Type 0
IsPlaced o = o.0 ≡ column o.1 0 ∷ []

are_placed : (rows : List Values) → AllByRecursion IsPlaced (map place_output rows)
are_placed [] = tt
are_placed (row ∷ rows) = (refl, are_placed rows)

then_equal : (o : Ordering) → is_lt (ordering_then o Equal) ≡ is_lt o
then_equal Less = refl
then_equal Equal = refl
then_equal Greater = refl

by_place : (a b : Output) → IsPlaced a → IsPlaced b → is_lt (output_cmp query a b) ≡ is_lt (value_cmp (column a.1 0) (column b.1 0))
by_place a b pa pb =
    ap₂ (λ (x y : Values). is_lt (output_cmp query (x, a.1) (y, b.1))) pa pb ∙ then_equal (value_cmp (column a.1 0) (column b.1 0))

rise_in_order : (os : List Output) → AllByRecursion IsPlaced os → IsSorted (output_cmp query) os → Rise (map (λ (o : Output). o.1) os)
rise_in_order [] placed sorted = tt
rise_in_order (a ∷ []) placed sorted = tt
rise_in_order (a ∷ b ∷ os) placed sorted =
    let tail : IsSorted (output_cmp query) (b ∷ os) = λ k d p q. rw add-one (rw add-one at (sorted (suc k) d (omega arith) (omega arith))) in
    (sym (by_place b a placed.1.0 placed.0) ∙ sorted 0 a (omega arith) (omega arith), rise_in_order (b ∷ os) placed.1 tail)

pub in_order : (old new : State) (rows : List Values) → old.now.schema ≡ ledger_schema → Shown read_text [] old new rows → AreInOrder (old.now.trees 0) rows
in_order old new rows has h =
    let answers = reads_as read_text [] old new ledger_schema has _ read_is.0 read_plain read_is.1 rows h in
    let a : IsAnswer query (overlay old.now.trees []) [] rows = answers.answer Null in
    let kept : a.kept ≡ map place_output (old.now.trees 0) = a.distinct ∙ ap (map (output query)) a.grouped ∙ any_outputs (old.now.trees 0) in
    let same : IsPermutation (map place_output (old.now.trees 0)) a.ordered = subst (λ k. IsPermutation k a.ordered) kept a.same in
    let placed : AllByRecursion IsPlaced a.ordered = all-permutation IsPlaced _ _ same (are_placed (old.now.trees 0)) in
    let is : rows ≡ map (λ (o : Output). o.1) a.ordered = a.shown in
    subst (AreInOrder (old.now.trees 0)) (sym is) (record {
      same = subst (λ all. IsPermutation all (map (λ (o : Output). o.1) a.ordered)) (any_shown (old.now.trees 0)) (IsPermutation-map (λ (o : Output). o.1) _ _ same);
      rising = rise_in_order a.ordered placed a.sorted;
    })

abbrev pub ShowsRows : List Values → Result (Vec KeptEvent Global) ReadFault → Type 0
ShowsRows rows r = MatchResult r (λ read. ShowFrom 1 rows read.items) (TellsRows rows)

pub reads_rows : (table rows : List Values) (r : Result (Vec KeptEvent Global) ReadFault) → AreInOrder table rows → ShowsRows rows r → ReadsTable table r
reads_rows table rows (Ok read) order h = (rows, order, h)
reads_rows table rows (Err (Sql error)) order h = tt
reads_rows table rows (Err (DoesNotFit number)) order h = (rows, order, h)
reads_rows table rows (Err _) order h = absurd h

pub stopped_rows : (table : List Values) (fault : ReadFault) → IsSqlFault fault → ReadsTable table (Err fault)
stopped_rows table (Sql error) h = tt
stopped_rows table (DoesNotFit number) h = absurd h
stopped_rows table _ h = absurd h

pub rows_sql : (text : List ℕ) (old new : State) (rows : List Values) (r : Result (Vec KeptEvent Global) ReadFault) → ShowsRows rows r → IfErr r (TellsSql text [] old new)
rows_sql text old new rows (Ok read) h = tt
rows_sql text old new rows (Err (Sql error)) h = inl h
rows_sql text old new rows (Err _) h = tt

-- ---- terms, or why there are none
want_sql : (fault : ReadFault) → IsWant fault → IsSqlFault fault
want_sql (Sql error) h = tt
want_sql _ h = absurd h

pub read_as : (wanted told : Result PlainTerms ReadFault) → TellsAs wanted told → ReadsAs wanted told
read_as wanted (Ok t) h = h
read_as wanted (Err fault) (inl want) = inl (want_sql fault want)
read_as wanted (Err fault) (inr is) = inr is

under_sql : (values : Values) (n : Option ℕ) (error : Error) → terms_under values n ≡ Err (Sql error) → ⊥
under_sql values None error h = cc
under_sql values (Some n) error h = by (nat_lt format n) (nat_lt n format) (terms_told values) h
  where
    by : (a b : Bool) (t : Option PlainTerms) → (if a then Err (LaterFormat n) else (if b then Err NoTerms else or_none t)) ≡ Err (Sql error) → ⊥
    by true b t h = cc
    by false true t h = cc
    by false false None h = cc
    by false false (Some t) h = cc

shown_sql : (rows : List Values) (error : Error) → terms_shown rows ≡ Err (Sql error) → ⊥
shown_sql [] error h = cc
shown_sql (row ∷ []) error h = under_sql row (number_in (column row 0)) error h
shown_sql (row ∷ next ∷ rows) error h = cc

pub terms_sql : (text : List ℕ) (old new : State) (rows : List Values) (r : Result PlainTerms ReadFault) → TellsAs (terms_shown rows) r → IfErr r (TellsSql text [] old new)
terms_sql text old new rows (Ok t) h = tt
terms_sql text old new rows (Err (Sql error)) (inl want) = inl want
terms_sql text old new rows (Err (Sql error)) (inr is) = absurd (shown_sql rows error is)
terms_sql text old new rows (Err _) h = tt

-- ---- what was read
pub on_ok : {A E P : Type 0} (r : Result A E) → P → OnOk r P
on_ok (Ok a) p = p
on_ok (Err e) p = tt

pub read_ok : {A : Type 0} (r : Result A ReadFault) (P : A → Type 0) → MatchResult r P IsSqlFault → IfOk r P
read_ok (Ok read) P h = h
read_ok (Err e) P h = tt

pub read_err : {A : Type 0} (r : Result A ReadFault) (P : A → Type 0) → MatchResult r P IsSqlFault → IfErr r IsSqlFault
read_err (Ok read) P h = tt
read_err (Err e) P h = h

pub reads_ledger : (s : State) (t : PlainTerms) (es : List Entry) (r : Result PlainTerms ReadFault) → IsLedgerOf t es s → ReadsAs (terms_in (s.now.trees 1)) r → ReadsAs (Ok t) r
reads_ledger s t es r was h = subst (λ wanted. ReadsAs wanted r) (ap terms_in was.held.began ∙ stored_back t was.held.terms) h

pub terms_ok : (r : Result PlainTerms ReadFault) (t : PlainTerms) → ReadsAs (Ok t) r → IfOk r (λ read. read ≡ t)
terms_ok (Ok read) t h = let same : t ≡ read = cc in sym same
terms_ok (Err e) t h = tt

pub terms_err : (r : Result PlainTerms ReadFault) (t : PlainTerms) → ReadsAs (Ok t) r → IfErr r IsSqlFault
terms_err (Ok read) t h = tt
terms_err (Err e) t (inl sql) = sql
terms_err (Err e) t (inr other) = absurd cc

module _ (t : PlainTerms) where
  pub read_shows : (old new : State) (es : List Entry) (rows : List Values) → old.now.schema ≡ ledger_schema → HoldEntries t es old.now.trees → Shown read_text [] old new rows → rows ≡ shown_from 1 es
  read_shows old new es rows has held h =
      let answers = reads_as read_text [] old new ledger_schema has _ read_is.0 read_plain read_is.1 rows h in
      let a : IsAnswer query (overlay old.now.trees []) [] rows = answers.answer Null in
      let all : map (output query) a.staged ≡ outputs_from 1 es = ap (map (output query)) a.grouped ∙ rw held.rows (outputs_are 1 es) in
      let kept : a.kept ≡ outputs_from 1 es = a.distinct ∙ all in
      let ordered : a.ordered ≡ outputs_from 1 es =
      sorted_unique (output_cmp query) (output_cmp_total query) (outputs_from 1 es) a.ordered (rises 1 es) (subst (λ k. IsPermutation k a.ordered) kept a.same) a.sorted in
      a.shown ∙ ap (λ xs. page query [] (map (λ (p : Output). p.1) xs)) ordered ∙ all_shown 1 es

  pub stays : (old new : State) (es : List Entry) → IsLedgerOf t es old → IsUnchanged old new → IsLedgerOf t es new
  stays old new es was same = record {
    schema = ap (λ (d : Database). d.schema) same.0.now_is ∙ was.schema;
    held = subst (λ (d : Database). HoldEntries t es d.trees) (sym same.0.now_is) was.held;
    committed = same.0.committed_is ∙ was.committed ∙ sym same.0.now_is;
    autocommit = same.0.mode ∙ was.autocommit;
  }

  pub read_same : (old new : State) (sql : List ℕ) (params : Values) (es : List Entry) (rows : List Values) → IsLedgerOf t es old → IsPlain (understood ledger_schema sql) → Shown sql params old new rows
      → IsLedgerOf t es new
  unfolding Shown
  read_same old new sql params es rows was plain h =
      let known = sym h.1.is ∙ ap (λ u. understood u sql) was.schema in
      let bare = subst IsPlain (sym known) plain in
      let it = rw bare.0 at h.2 in
      stays old new es was it.3

-- ---- what a question does
module _ (text : List ℕ) (params : Values) (plain : IsPlain (understood ledger_schema text)) (old new : State) where
  stays_quiet : Survives old new (CommitsShowing text params old) → Survives old new (λ _. (t : PlainTerms) (events : List KeptEvent) → IsLedger t events old → ⊥)
  stays_quiet = survives_weaker old new _ _ (λ _ db may t events was. never_commits text params old db (subst (λ u. IsPlain (understood u text)) (sym was.ledger.schema) plain) may)

  pub answered : {A : Type 0} (r : Result A ReadFault) (rows : List Values) → is_err (understood no_schema text) ≡ true → (HasCleanDisk new → Shown text params old new rows)
      → (HasCleanDisk new → (t : PlainTerms) (es : List Entry) → IsLedgerOf t es old → IfErr r IsSqlFault) → IfErr r (TellsSql text params old new) → Survives old new (CommitsShowing text params old)
      → OnlyReads text params old new r
  answered r rows none shown fit sql survives = record {
    same = λ clean t events was. on_ok r (record { entries = was.entries; are = was.are; ledger = read_same t old new text params was.entries rows was.ledger plain (shown clean) });
    stays = λ clean t es was. on_ok r (read_same t old new text params es rows was plain (shown clean));
    fit = λ clean t events was. fit clean t was.entries was.ledger;
    bare = λ clean has. absurd (never_shown text params old new no_schema rows has none (shown clean));
    sql = λ clean. sql;
    crash = stays_quiet survives;
  }

  told_sql : (error : Error) → FailsToQuery text params old new error → TellsSql text params old new (query_fault error)
  told_sql (SqlInputError fault) h = tt
  told_sql _ h = inr h

  pub unanswered : {A : Type 0} (error : Error) (fault : ReadFault) → fault ≡ query_fault error → (HasCleanDisk new → FailsToQuery text params old new error) → Survives old new (CommitsShowing text params old)
      → OnlyReads {A = A} text params old new (Err fault)
  unanswered error fault told fails survives = record {
    same = λ clean t events was. tt;
    stays = λ clean t es was. tt;
    fit = λ clean t events was. subst IsSqlFault (sym told) (query_faults text params old new ledger_schema error was.ledger.schema plain (fails clean));
    bare = λ clean has. subst (λ f. IsSqlFault f ⊎ (f ≡ NoBook)) (sym told) (told_either error);
    sql = λ clean. subst (TellsSql text params old new) (sym told) (told_sql error (fails clean));
    crash = stays_quiet survives;
  }
