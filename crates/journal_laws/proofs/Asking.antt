-- States with the same live objects answer alike.
use Rattle.std.proofs.Common.{◌≡◌, ℕ, Bool, true, false, cond, ◌&&◌, T, List, [], ◌∷◌, map as each, Option, Some, None, refl, sym, ◌∙◌, ap}
use Rattle.std.specs.Prelude.{filter}
use Rattle.std.specs.declared.cmp.Ordering.{Ordering}
use Rattle.std.specs.declared.cmp.Ordering.TheVariants.{Less, Equal, Greater}
use Rattle.std.specs.Ordering.{nat_cmp, is_eq, is_lt, eq_by_cmp}
use Rattle.std.specs.Cmp.{nat_cmp_total}
use Rattle.std.specs.FinMap as map
use Rattle.std.specs.FinMap.{nat_cmp-IsAntisymmetric, find}
use Rattle.std.specs.FinMap.Entries.{is_sorted, below_all, same_entries}
use Rattle.bt_roots.specs.Exchange.{device_named}
use Rattle.host_state.specs.declared.ask.Ask.{Ask as Question}
use Rattle.host_state.specs.declared.ask.Ask.TheVariants.{Attr, Map, Maps, Dump, Progs, Code, Pinned, Devices, Start, Fetch}
use Rattle.host_state.specs.declared.ask.AskReply.TheVariants.{Maps as MapsReply, Progs as ProgsReply, Pinned as PinnedReply}
use Rattle.bt_objects.specs.ById.{ById}
use Rattle.host_state.specs.State.{HostMap, HostProg, State}
use Rattle.host_state.specs.Act.{if_live}
use Rattle.host_state.specs.Ask.{ask, if_found, row_of, prog_row, if_live_prog, devices_shown}
use Rattle.host_state.proofs.Asked.{read_from, attr_of, dumped, code_of, started, fetched}
use Rattle.journal_model.specs.Marks.{moments_at}
use Rattle.journal_model.specs.Book.{PlainBook, asked}
use Rattle.journal_model.specs.Forget.{forgotten_unless, forgotten_from}
use Rattle.journal_model.specs.Rebase.{still_taken_out}
use Rattle.journal_laws.specs.Laws.{AnswersAlike}
use Rattle.journal_invariant.specs.Live.{HasSameLive}
use Rattle.journal_model.proofs.Mapped.{same_of}
use Rattle.journal_invariant.proofs.Forgetting.{keeps_what_is_later}

-- ---- entries that pass a test
both_parts : (a b : Bool) → T (a && b) → T a × T b
both_parts true b h = (tt, h)
both_parts false b h = absurd h

both : (a b : Bool) → T a → T b → T (a && b)
both true b h k = k
both false b h k = absurd h

module _ {X : Type 0} (passes : X → Bool) where
  abbrev passed : List (ℕ × X) → List (ℕ × X)
  passed es = filter (λ (e : ℕ × X). passes e.1) es

  abbrev if_passes : Option X → Option X
  if_passes None = None
  if_passes (Some x) = cond (passes x) (Some x) None

  none_below : (k : ℕ) (es : List (ℕ × X)) → T (below_all nat_cmp k es) → find nat_cmp k (passed es) ≡ None
  none_below k [] below = refl
  none_below k (e ∷ es) below =
      let p = both_parts (is_lt (nat_cmp k e.0)) (below_all nat_cmp k es) below in
      by (passes e.1) (apart (nat_cmp k e.0) p.0) (none_below k es p.1)
    where
      apart : (o : Ordering) → T (is_lt o) → is_eq o ≡ false
      apart Less less = refl
      apart Equal less = absurd less
      apart Greater less = absurd less

      by : (b : Bool) → eq_by_cmp nat_cmp k e.0 ≡ false → find nat_cmp k (passed es) ≡ None → find nat_cmp k (cond b (e ∷ passed es) (passed es)) ≡ None
      by true other rest = ap (λ same. cond same (Some e.1) (find nat_cmp k (passed es))) other ∙ rest
      by false other rest = rest

  still_below : (k : ℕ) (es : List (ℕ × X)) → T (below_all nat_cmp k es) → T (below_all nat_cmp k (passed es))
  still_below k [] below = tt
  still_below k (e ∷ es) below =
      let p = both_parts (is_lt (nat_cmp k e.0)) (below_all nat_cmp k es) below in
      by (passes e.1) p.0 (still_below k es p.1)
    where
      by : (b : Bool) → T (is_lt (nat_cmp k e.0)) → T (below_all nat_cmp k (passed es)) → T (below_all nat_cmp k (cond b (e ∷ passed es) (passed es)))
      by true less rest = both (is_lt (nat_cmp k e.0)) (below_all nat_cmp k (passed es)) less rest
      by false less rest = rest

  still_sorted : (es : List (ℕ × X)) → T (is_sorted nat_cmp es) → T (is_sorted nat_cmp (passed es))
  still_sorted [] sorted = tt
  still_sorted (e ∷ es) sorted =
      let p = both_parts (below_all nat_cmp e.0 es) (is_sorted nat_cmp es) sorted in
      by (passes e.1) (still_below e.0 es p.0) (still_sorted es p.1)
    where
      by : (b : Bool) → T (below_all nat_cmp e.0 (passed es)) → T (is_sorted nat_cmp (passed es)) → T (is_sorted nat_cmp (cond b (e ∷ passed es) (passed es)))
      by true below rest = both (below_all nat_cmp e.0 (passed es)) (is_sorted nat_cmp (passed es)) below rest
      by false below rest = rest

  find-passed : (q : ℕ) (es : List (ℕ × X)) → T (is_sorted nat_cmp es) → find nat_cmp q (passed es) ≡ if_passes (find nat_cmp q es)
  find-passed q [] sorted = refl
  find-passed q (e ∷ es) sorted =
      let p = both_parts (below_all nat_cmp e.0 es) (is_sorted nat_cmp es) sorted in
      by (passes e.1) (eq_by_cmp nat_cmp q e.0) refl refl (none_below e.0 es p.0) (find-passed q es p.1)
    where
      by : (b same : Bool) → passes e.1 ≡ b → eq_by_cmp nat_cmp q e.0 ≡ same → find nat_cmp e.0 (passed es) ≡ None → find nat_cmp q (passed es) ≡ if_passes (find nat_cmp q es)
          → find nat_cmp q (cond b (e ∷ passed es) (passed es)) ≡ if_passes (cond same (Some e.1) (find nat_cmp q es))
      by true true pass same none rest = ap (λ t. cond t (Some e.1) (find nat_cmp q (passed es))) same ∙ sym (ap (λ t. cond t (Some e.1) None) pass)
      by true false pass same none rest = ap (λ t. cond t (Some e.1) (find nat_cmp q (passed es))) same ∙ rest
      by false true pass same none rest = ap (λ k. find nat_cmp k (passed es)) (same_of q e.0 same) ∙ none ∙ sym (ap (λ t. cond t (Some e.1) None) pass)
      by false false pass same none rest = rest

  -- what passes is the same if it is found alike
  same_passed : (m n : ById X) → ((q : ℕ) → if_passes (map.get n q) ≡ if_passes (map.get m q)) → passed (map.entries n) ≡ passed (map.entries m)
  same_passed m n alike =
      same_entries nat_cmp nat_cmp_total nat_cmp-IsAntisymmetric (passed (map.entries n)) (passed (map.entries m)) (still_sorted (map.entries n) (map.entries_sorted n)) (still_sorted (map.entries m) (map.entries_sorted m))
      (λ q. find-passed q (map.entries n) (map.entries_sorted n) ∙ ap if_passes (sym (map.get-entries n q)) ∙ alike q ∙ ap if_passes (map.get-entries m q) ∙ sym (find-passed q (map.entries m) (map.entries_sorted m)))

-- ---- live objects
live_map_passes : (o : Option HostMap) → if_passes (λ (m : HostMap). m.live) o ≡ if_live o
live_map_passes None = refl
live_map_passes (Some m) = refl

live_prog_passes : (o : Option HostProg) → if_passes (λ (p : HostProg). p.live) o ≡ if_live_prog o
live_prog_passes None = refl
live_prog_passes (Some p) = refl

module _ (s t : State) (h : HasSameLive s t) where
  same_maps : filter (λ (e : ℕ × HostMap). e.1.live) (map.entries t.maps) ≡ filter (λ (e : ℕ × HostMap). e.1.live) (map.entries s.maps)
  same_maps = same_passed (λ (m : HostMap). m.live) s.maps t.maps (λ q. live_map_passes (map.get t.maps q) ∙ h.maps q ∙ sym (live_map_passes (map.get s.maps q)))

  same_progs : filter (λ (e : ℕ × HostProg). e.1.live) (map.entries t.progs) ≡ filter (λ (e : ℕ × HostProg). e.1.live) (map.entries s.progs)
  same_progs = same_passed (λ (p : HostProg). p.live) s.progs t.progs (λ q. live_prog_passes (map.get t.progs q) ∙ h.progs q ∙ sym (live_prog_passes (map.get s.progs q)))

  pub answers_alike : (question : Question) → ask t question ≡ ask s question
  unfolding ask
  answers_alike (Attr id) = ap attr_of (h.maps id)
  answers_alike (Map id query) = ap (λ o. read_from o query) (h.maps id)
  answers_alike (Maps None) = ap (λ es. MapsReply (each row_of es)) same_maps
  answers_alike (Maps (Some id)) = ap (if_found (λ (m : HostMap). MapsReply (row_of (id, m) ∷ []))) (h.maps id)
  answers_alike (Dump id) = ap dumped (h.maps id)
  answers_alike (Progs None) = ap (λ es. ProgsReply (each prog_row es)) same_progs
  answers_alike (Progs (Some id)) = ap (if_found (λ (p : HostProg). ProgsReply (prog_row (id, p) ∷ []))) (h.progs id)
  answers_alike (Code id) = ap code_of (h.progs id)
  answers_alike (Pinned path) = ap (λ (pins : _). if_found PinnedReply (map.get pins path)) h.pins
  answers_alike (Devices only) = ap (λ devices. devices_shown devices only) h.devices
  answers_alike (Start device) = λ i. started (λ id. h.progs id i) (device_named (h.devices i) device)
  answers_alike (Fetch id index) = λ i. fetched (λ q. h.progs q i) (h.maps id i) index

-- ---- a book
pub book_answers_alike : (b : PlainBook) (name : List ℕ) → AnswersAlike b name
book_answers_alike b name w question = from (moments_at name b.marks)
  where
    unless : (count : ℕ) (o : Option ℕ) → still_taken_out count b.line ≡ o → asked (forgotten_unless o b count).0 question ≡ asked b question
    unless count (Some serial) e = refl
    unless count None e = answers_alike _ _ (keeps_what_is_later b w count e).state question

    from : (o : Option ℕ) → asked (forgotten_from b name o).0 question ≡ asked b question
    from None = refl
    from (Some count) = unless count (still_taken_out count b.line) refl
