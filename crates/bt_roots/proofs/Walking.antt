-- Steps of the walk joined: what was reached grows, and in the end it is closed under the links.
use Rattle.std.proofs.Common.{◌≡◌, ◌⊎◌, ◌↔◌, ℕ, ◌+◌, ◌<◌, ◌≤◌, true, List, [], ◌∷◌, ◌++◌, map, length, get_or, sym, ap, subst, ◌∙◌, inl, inr, arith, Contains, length-append}
use Rattle.std.proofs.lemmas.List.Elements.{Contains-append_left, Contains-push, Contains-push_cases, Contains-get_or}
use Rattle.std.proofs.lemmas.Bool.{cases_lt}
use Rattle.std.proofs.lemmas.List.{length-map, get_or-map, get_or_default}
use Rattle.std.proofs.Common.{not}
use Rattle.std.specs.List.{count_by, list_any}
use Rattle.std.specs.BTreeMap.{is_at}
use Rattle.bt_roots.specs.TargetOrder.{target_cmp}
use Rattle.bt_roots.specs.declared.target.Target.{Target}
use Rattle.bt_roots.specs.declared.reach.Reached.{Reached}
use Rattle.bt_roots.specs.Reachable.{Links, IsReachable, start, link}
use Rattle.bt_roots.specs.Walk.{has, left, Grows, IsClosedBut, IsStarted}

pub linked_to : (links : Links) (from x : Target) → Contains links (from, x) → Contains (map (λ l. l.1) links) x
linked_to links from x (k, lt, e) =
    (k, omega (arith, length-map links (λ (l : Target × Target). l.1)), get_or-map (λ (l : Target × Target). l.1) links k (from, x) x lt ∙ ap (λ l. l.1) e)

module _ {P : Target → Type 0} where
  pub grows_not : (r : Reached) → Grows r r P
  grows_not r = record {
    kept = λ x h. h;
    only = λ x h. inl h;
    todo_kept = λ x h. h;
    todo_new = λ x h. inl h;
    todo_only = λ x h. inl h;
    less = λ targets holds. omega arith;
  }

  pub grows_then : (a b c : Reached) → Grows a b P → Grows b c P → Grows a c P
  grows_then a b c p q = record {
    kept = λ x h. q.kept x (p.kept x h);
    only = λ x h. elim (q.only x h) [ inl m ↦ p.only x m | inr y ↦ inr y ];
    todo_kept = λ x h. q.todo_kept x (p.todo_kept x h);
    todo_new = λ x h. elim (q.todo_new x h) [
      | inl m ↦ elim (p.todo_new x m) [ inl o ↦ inl o | inr t ↦ inr (q.todo_kept x t) ]
      | inr t ↦ inr t
    ];
    todo_only = λ x h. elim (q.todo_only x h) [
      | inl t ↦ elim (p.todo_only x t) [ inl o ↦ inl o | inr m ↦ inr (q.kept x m) ]
      | inr n ↦ inr n
    ];
    less = λ targets holds. omega (arith, p.less targets holds, q.less targets holds);
  }

  pub grows_as : {Q : Target → Type 0} (a b : Reached) → ((x : Target) → Q x → P x) → Grows a b Q → Grows a b P
  grows_as a b also g = record {
    kept = g.kept;
    only = λ x h. elim (g.only x h) [ inl o ↦ inl o | inr q ↦ inr (also x q) ];
    todo_kept = g.todo_kept;
    todo_new = g.todo_new;
    todo_only = g.todo_only;
    less = λ targets holds. g.less targets (λ x q. holds x (also x q));
  }

module _ (links : Links) (from : Target) (old popped new : Reached) (same : popped.seen ≡ old.seen) (last : old.todo.items ≡ popped.todo.items ++ from ∷ []) where
  still : (x : Target) → has old x ≡ has popped x
  still x = ap (λ seen. has (record { seen = seen; todo = old.todo }) x) (sym same)

  was_to_walk : (x : Target) → Contains old.todo.items x → Contains popped.todo.items x ⊎ (from ≡ x)
  was_to_walk x h = Contains-push_cases popped.todo.items from x (subst (λ l. Contains l x) last h)

  to_walk_before : (x : Target) → Contains popped.todo.items x → Contains old.todo.items x
  to_walk_before x h = subst (λ l. Contains l x) (sym last) (Contains-append_left popped.todo.items (from ∷ []) x h)

  pub from_to_walk : Contains old.todo.items from
  from_to_walk = subst (λ l. Contains l from) (sym last) (Contains-push popped.todo.items from)

  module _ (grows : Grows popped new (λ x. Contains links (from, x))) where
    pub kept_on : (x : Target) → has old x ≡ true → has new x ≡ true
    kept_on x h = grows.kept x (sym (still x) ∙ h)

    pub only_linked : (x : Target) → has new x ≡ true → (has old x ≡ true) ⊎ Contains links (from, x)
    only_linked x h = elim (grows.only x h) [ inl o ↦ inl (still x ∙ o) | inr y ↦ inr y ]

    -- one step less is left
    pub less_left : left (map (λ l. l.1) links) new < left (map (λ l. l.1) links) old
    less_left =
        let fewer = grows.less (map (λ l. l.1) links) (λ x h. linked_to links from x h) in
        let seen : ◌≡◌ {A = ℕ} (count_by (λ x. not (has popped x)) (map (λ l. l.1) links)) (count_by (λ x. not (has old x)) (map (λ l. l.1) links)) =
        sym (λ i. count_by (λ x. not (still x i)) (map (λ l. l.1) links)) in
        omega (arith, fewer, seen, ap length last, length-append popped.todo.items (from ∷ []))

    -- what was walked from is closed now
    pub closed_on : ((x : Target) → Contains links (from, x) → has new x ≡ true) → IsClosedBut old links → IsClosedBut new links
    closed_on added before = record {
      todo_reached = λ x h. elim (grows.todo_only x h) [
        | inl t ↦ kept_on x (before.todo_reached x (to_walk_before x t))
        | inr n ↦ n
      ];
      closed = λ x y h l. elim (grows.todo_new x h) [
        | inl o ↦ elim (before.closed x y (still x ∙ o) l) [
          | inl there ↦ inl (kept_on y there)
          | inr t ↦ elim (was_to_walk x t) [
            | inl t ↦ inr (grows.todo_kept x t)
            | inr e ↦ inl (added y (subst (λ f. Contains links (f, y)) (sym e) l))
          ]
        ]
        | inr t ↦ inr t
      ];
    }

-- more starts and more links reach no less
reaches_too : {P Q : Target → Type 0} {a b : Links} → ((x : Target) → P x → Q x) → ((l : Target × Target) → Contains a l → Contains b l)
    → {x : Target} → IsReachable P a x → IsReachable Q b x
reaches_too f g (start target p) = start target (f target p)
reaches_too f g (link from to r l) = link from to (reaches_too f g r) (g (from, to) l)

-- alike starts reach alike
pub reaches_alike : {P Q : Target → Type 0} (links : Links) → ((x : Target) → P x ↔ Q x) → (x : Target) → IsReachable P links x ↔ IsReachable Q links x
reaches_alike links alike x = (λ r. reaches_too (λ y. (alike y).0) (λ l h. h) r, λ r. reaches_too (λ y. (alike y).1) (λ l h. h) r)

-- what follows from the starts was reached if that is closed
all_reached : (links : Links) (P : Target → Type 0) (last : Reached) → ((x : Target) → P x → has last x ≡ true)
    → ((x y : Target) → has last x ≡ true → Contains links (x, y) → has last y ≡ true) → {x : Target} → IsReachable P links x → has last x ≡ true
all_reached links P last starts closed (start target p) = starts target p
all_reached links P last starts closed (link from to r l) = closed from to (all_reached links P last starts closed r) l

-- a walk from the starts over the links in another order reached just what is reachable
pub walked : (starts : List Target) (links sorted : Links) (first last : Reached)
    → IsStarted starts first
    → ((l : Target × Target) → Contains links l ↔ Contains sorted l)
    → ((x : Target) → has first x ≡ true → has last x ≡ true)
    → ((x : Target) → has last x ≡ true → IsReachable (λ y. has first y ≡ true) sorted x)
    → ((x y : Target) → has last x ≡ true → Contains sorted (x, y) → has last y ≡ true)
    → (x : Target) → (has last x ≡ true) ↔ IsReachable (Contains starts) links x
walked starts links sorted first last started same kept only closed x = (
  λ h. reaches_too (λ y. (started.reached_starts y).0) (λ l. (same l).1) (only x h),
  λ r. all_reached links (Contains starts) last (λ y h. kept y ((started.reached_starts y).1 h)) (λ a b h l. closed a b h ((same (a, b)).0 l)) r,
)

-- a fresh walk is closed but for the starts
pub closed_first : (starts : List Target) (links : Links) (first : Reached) → IsStarted starts first → IsClosedBut first links
closed_first starts links first started = record {
  todo_reached = λ x t. (started.reached_starts x).1 ((started.to_walk x).0 t);
  closed = λ x y h l. inr ((started.to_walk x).1 ((started.reached_starts x).0 h));
}

-- what grew from nothing by the starts
pub started_by : (starts : List Target) (none reached : Reached) → none.seen.keys ≡ [] → none.todo.items ≡ [] → Grows none reached (Contains starts)
    → ((x : Target) → Contains starts x → has reached x ≡ true) → IsStarted starts reached
started_by starts none reached no_keys no_items grows added = record {
  reached_starts = λ x. (λ h. by_start x h, added x);
  to_walk = λ x. (λ t. elim (grows.todo_only x t) [ inl o ↦ absurd (nothing x o) | inr h ↦ by_start x h ], λ h. elim (grows.todo_new x (added x h)) [ inl o ↦ absurd (unseen x o) | inr t ↦ t ]);
}
  where
    unseen : (x : Target) → has none x ≡ true → ⊥
    unseen x h = cc (ap (λ keys. list_any (is_at (target_cmp x)) keys) no_keys)

    nothing : (x : Target) → Contains none.todo.items x → ⊥
    nothing x (k, lt, e) = omega (arith, ap length no_items)

    by_start : (x : Target) → has reached x ≡ true → Contains starts x
    by_start x h = elim (grows.only x h) [ inl o ↦ absurd (unseen x o) | inr s ↦ s ]

module _ {X : Type 0} (f : X → Target) (items : List X) where
  -- one more item was reached
  pub added_more : (i : ℕ) (d : X) (old new : Reached) → i < length items → ((x : Target) → has old x ≡ true → has new x ≡ true)
      → ((k : ℕ) (e : X) → k < i → has old (f (get_or items k e)) ≡ true) → has new (f (get_or items i d)) ≡ true
      → (k : ℕ) (e : X) → k < i + 1 → has new (f (get_or items k e)) ≡ true
  added_more i d old new lt kept before here k e below =
      elim (cases_lt k i) [
        | inl less ↦ kept (f (get_or items k e)) (before k e less)
        | inr more ↦
            let same : i ≡ k = omega arith in
            ap (λ y. has new (f y)) (sym (get_or_default items i d e lt ∙ ap (λ n. get_or items n e) same)) ∙ here
      ]

  -- and in the end all of them
  pub added_all : (n : ℕ) (reached : Reached) → length items ≤ n → ((k : ℕ) (e : X) → k < n → has reached (f (get_or items k e)) ≡ true)
      → (y : X) → Contains items y → has reached (f y) ≡ true
  added_all n reached all added y (k, lt, e) = ap (λ z. has reached (f z)) (sym e) ∙ added k y (omega arith)

-- what an item of the links from an object leads to
pub linked_item : (links items : Links) (from : Target) (i : ℕ) (d : Target × Target)
    → ((l : Target × Target) → Contains items l ↔ (Contains links l × (l.0 ≡ from))) → i < length items
    → (x : Target) → x ≡ (get_or items i d).1 → Contains links (from, x)
linked_item links items from i d among lt x e =
    let l = get_or items i d in
    let found = (among l).0 (Contains-get_or items i d lt) in
    let is : l ≡ (from, x) = λ j. (found.1 j, sym e j) in
    subst (λ m. Contains links m) is found.0
