-- The test of liveness tells what is reachable.
use Rattle.std.proofs.Common.{◌≡◌, ◌⊎◌, ◌↔◌, ℕ, zero, suc, ◌+◌, ◌≤◌, Bool, true, false, not, ◌&&◌, ◌||◌, T, List, [], ◌∷◌, map, length, Option, None, Some, cond, refl, sym, ap, subst, ◌∙◌, inl, inr, arith, Contains}
use Rattle.std.specs.List.{list_any, count_by}
use Rattle.std.proofs.lemmas.List.{length-map}
use Rattle.std.proofs.lemmas.List.Sums.{count_by-le-length}
use Rattle.std.specs.declared.cmp.Ordering.{Ordering}
use Rattle.std.specs.declared.cmp.Ordering.TheVariants.{Less, Equal, Greater}
use Rattle.std.specs.Ordering.{is_eq, is_lt, eq_by_cmp, ordering_reverse}
use Rattle.std.specs.Cmp.{tied_itself}
use Rattle.std.specs.Cmp.Lexicographic.{nat_list_cmp_total}
use Rattle.std.specs.FinMap as finite
use Rattle.std.specs.FinMap.Entries.{find, is_sorted, below_all}
use Rattle.bt_roots.specs.declared.target.Target.{Target}
use Rattle.bt_roots.specs.declared.target.Target.TheVariants.{Prog}
use Rattle.bt_roots.specs.declared.device.Device.{Device}
use Rattle.bt_roots.specs.TargetOrder.{target_cmp, tied_targets}
use Rattle.bt_roots.specs.View.{Pins, path_cmp}
use Rattle.bt_roots.specs.Reachable.{Links, IsReachable, start, link, IsPinned, IsAttached, IsRoot}
use Rattle.bt_roots.specs.Live.{is_same, is_prog, is_root, leads_within, is_live, IsReachability}
use Rattle.bt_roots.proofs.Targets.{same_target}
use Rattle.bt_roots.proofs.Growth.{count_by-less}
use Rattle.bt_roots.proofs.Walking.{linked_to, reaches_alike}

-- tests
ties : (o : Ordering) → is_eq o ≡ true → o ≡ Equal
ties Less e = cc
ties Equal e = refl
ties Greater e = cc

same_is : (x y : Target) → is_same x y ≡ true → x ≡ y
same_is x y e = tied_targets x y (ties (target_cmp x y) e)

same_itself : (x : Target) → is_same x x ≡ true
same_itself x = ap is_eq (same_target x)

left_or : (a b : Bool) → a ≡ true → (a || b) ≡ true
left_or a b e = ap (λ c. c || b) e

right_or : (a b : Bool) → b ≡ true → (a || b) ≡ true
right_or true b e = refl
right_or false b e = e

or_cases : (a b : Bool) → (a || b) ≡ true → (a ≡ true) ⊎ (b ≡ true)
or_cases true b e = inl refl
or_cases false b e = inr e

both_and : (a b : Bool) → a ≡ true → b ≡ true → (a && b) ≡ true
both_and a b p q = ap (λ c. c && b) p ∙ q

and_parts : (a b : Bool) → (a && b) ≡ true → (a ≡ true) × (b ≡ true)
and_parts true b e = (refl, e)
and_parts false b e = cc

module _ {X : Type 0} (p : X → Bool) where
  one_of : (xs : List X) → list_any p xs ≡ true → (x : X) × Contains xs x × (p x ≡ true)
  one_of [] e = cc
  one_of (x ∷ xs) e = either (one_of xs) (or_cases (p x) (list_any p xs) e)
    where
      either : (list_any p xs ≡ true → (y : X) × Contains xs y × (p y ≡ true)) → (p x ≡ true) ⊎ (list_any p xs ≡ true) → (y : X) × Contains (x ∷ xs) y × (p y ≡ true)
      either rest (inl here) = (x, (zero, omega arith, refl), here)
      either rest (inr there) = let (y, (k, lt, e), passes) = rest there in (y, (suc k, omega arith, e), passes)

  any_of : (xs : List X) (x : X) → Contains xs x → p x ≡ true → list_any p xs ≡ true
  any_of [] x (k, lt, e) passes = absurd (omega arith)
  any_of (y ∷ xs) x (zero, lt, e) passes = left_or (p y) (list_any p xs) (ap p e ∙ passes)
  any_of (y ∷ xs) x (suc k, lt, e) passes = right_or (p y) (list_any p xs) (any_of xs x (k, omega arith, e) passes)

module _ (is_start : Target → Bool) (links : Links) where
  abbrev led : ℕ → Target → Bool
  led n x = leads_within n is_start links x

  abbrev by_link : ℕ → Target → Target × Target → Bool
  by_link n x step = is_same x step.1 && led n step.0

  -- what a walk leads to is reachable
  sound : (n : ℕ) (x : Target) → led n x ≡ true → IsReachable (λ y. is_start y ≡ true) links x
  sound zero x h = start x h
  sound (suc n) x h = by (sound n) (or_cases (led n x) (list_any (by_link n x) links) h)
    where
      by : ((y : Target) → led n y ≡ true → IsReachable (λ z. is_start z ≡ true) links y) → (led n x ≡ true) ⊎ (list_any (by_link n x) links ≡ true) → IsReachable (λ y. is_start y ≡ true) links x
      by rest (inl near) = rest x near
      by rest (inr far) =
          let ((from, to), among, passes) = one_of (by_link n x) links far in
          let parts = and_parts (is_same x to) (led n from) passes in
          link from x (rest from parts.1) (subst (λ y. Contains links (from, y)) (sym (same_is x to parts.0)) among)

  longer : (n : ℕ) (x : Target) → led n x ≡ true → led (suc n) x ≡ true
  longer n x h = left_or (led n x) (list_any (by_link n x) links) h

  one_more : (n : ℕ) (x y : Target) → led n x ≡ true → Contains links (x, y) → led (suc n) y ≡ true
  one_more n x y h among = right_or (led n y) (list_any (by_link n y) links) (any_of (by_link n y) links (x, y) among (both_and (is_same y y) (led n x) (same_itself y) h))

  starts_led : (n : ℕ) (x : Target) → is_start x ≡ true → led n x ≡ true
  starts_led zero x h = h
  starts_led (suc n) x h = longer n x (starts_led n x h)

  abbrev Closed : ℕ → Type 0
  Closed n = (x y : Target) → led n x ≡ true → Contains links (x, y) → led n y ≡ true

  no_longer : (n : ℕ) → Closed n → (x : Target) → led (suc n) x ≡ true → led n x ≡ true
  no_longer n closed x h = by (or_cases (led n x) (list_any (by_link n x) links) h)
    where
      by : (led n x ≡ true) ⊎ (list_any (by_link n x) links ≡ true) → led n x ≡ true
      by (inl near) = near
      by (inr far) =
          let ((from, to), among, passes) = one_of (by_link n x) links far in
          let parts = and_parts (is_same x to) (led n from) passes in
          closed from x parts.1 (subst (λ y. Contains links (from, y)) (sym (same_is x to parts.0)) among)

  closed_on : (n : ℕ) → Closed n → Closed (suc n)
  closed_on n closed x y h among = longer n y (closed x y (no_longer n closed x h) among)

  -- whether the link leads out of what the walks lead to
  abbrev leads_out : ℕ → Target × Target → Bool
  leads_out n step = led n step.0 && not (led n step.1)

  closed_in : (n : ℕ) → list_any (leads_out n) links ≡ false → Closed n
  closed_in n none x y h among = by (led n y) refl
    where
      by : (b : Bool) → led n y ≡ b → b ≡ true
      by true e = refl
      by false e = cc (none, any_of (leads_out n) links (x, y) among (both_and (led n x) (not (led n y)) h (ap not e)))

  abbrev unled : ℕ → ℕ
  unled n = count_by (λ x. not (led n x)) (map (λ step. step.1) links)

  still_unled : (n : ℕ) (x : Target) → not (led (suc n) x) ≡ true → not (led n x) ≡ true
  still_unled n x e = by (led n x) (led (suc n) x) (longer n x) e
    where
      by : (a b : Bool) → (a ≡ true → b ≡ true) → not b ≡ true → not a ≡ true
      by true b h e = cc (h refl)
      by false b h e = refl

  untrue : (b : Bool) → not b ≡ true → b ≡ false
  untrue true e = cc
  untrue false e = refl

  -- a walk of one link more leads to more, if one leads out
  one_less : (n : ℕ) → list_any (leads_out n) links ≡ true → unled (suc n) + 1 ≤ unled n
  one_less n some =
      let ((x, y), among, passes) = one_of (leads_out n) links some in
      let parts = and_parts (led n x) (not (led n y)) passes in
      count_by-less (λ z. not (led n z)) (λ z. not (led (suc n) z)) (still_unled n) y parts.1 (ap not (one_more n x y parts.0 among))
      (map (λ step. step.1) links) (linked_to links x y among)

  fewer : (n : ℕ) → Closed n ⊎ (unled n + n ≤ length links)
  fewer zero = inr (omega (arith, count_by-le-length (λ x. not (led zero x)) (map (λ step. step.1) links), length-map links (λ (step : Target × Target). step.1)))
  fewer (suc n) = elim (fewer n) [
    | inl closed ↦ inl (closed_on n closed)
    | inr few ↦ by (list_any (leads_out n) links) refl few
  ]
    where
      by : (b : Bool) → list_any (leads_out n) links ≡ b → unled n + n ≤ length links → Closed (suc n) ⊎ (unled (suc n) + suc n ≤ length links)
      by true e few = inr (omega (arith, one_less n e))
      by false e few = inl (closed_on n (closed_in n e))

  all_led : (n : ℕ) → unled n ≡ 0 → Closed n
  all_led n none x y h among = by (led n y) refl
    where
      by : (b : Bool) → led n y ≡ b → b ≡ true
      by true e = refl
      by false e = absurd (omega (arith, count_by-less (λ z. not (led n z)) (λ z. false) (λ z f. absurd (wrong f)) y (ap not e) refl (map (λ step. step.1) links) (linked_to links x y among)))
        where
          wrong : false ≡ true → ⊥
          wrong f = cc

  closed_at_last : Closed (length links)
  closed_at_last = elim (fewer (length links)) [ inl closed ↦ closed | inr few ↦ all_led (length links) (omega arith) ]

  complete : {x : Target} → IsReachable (λ y. is_start y ≡ true) links x → led (length links) x ≡ true
  complete (start target h) = starts_led (length links) target h
  complete (link from to r among) = closed_at_last from to (complete r) among

-- what stands among sorted entries is found
first : (a b : Bool) → T (a && b) → T a
first true b h = tt
first false b h = h

second : (a b : Bool) → T (a && b) → T b
second true b h = h
second false b h = absurd h

less : (o : Ordering) → T (is_lt o) → o ≡ Less
less Less h = refl
less Equal h = absurd h
less Greater h = absurd h

above_all : (path : List ℕ) (es : List (List ℕ × Target)) → T (below_all path_cmp path es) → (k : List ℕ) (t : Target) → Contains es (k, t) → path_cmp path k ≡ Less
above_all path [] h k t (i, lt, e) = absurd (omega arith)
above_all path (x ∷ es) h k t (zero, lt, e) = ap (λ y. path_cmp path y.0) (sym e) ∙ less (path_cmp path x.0) (first _ _ h)
above_all path (x ∷ es) h k t (suc i, lt, e) = above_all path es (second _ _ h) k t (i, omega arith, e)

find_there : (es : List (List ℕ × Target)) → T (is_sorted path_cmp es) → (k : List ℕ) (t : Target) → Contains es (k, t) → find path_cmp k es ≡ Some t
find_there [] h k t (i, lt, e) = absurd (omega arith)
find_there (x ∷ es) h k t (zero, lt, e) =
    let ties : path_cmp k x.0 ≡ Equal = ap (λ y. path_cmp k y.0) e ∙ tied_itself nat_list_cmp_total k in
    ap (λ o. cond (is_eq o) (Some x.1) (find path_cmp k es)) ties ∙ ap (λ y. Some y.1) e
find_there (x ∷ es) h k t (suc i, lt, e) =
    let above = above_all x.0 es (first _ _ h) k t (i, omega arith, e) in
    let other : path_cmp k x.0 ≡ Greater = nat_list_cmp_total.antisymm k x.0 ∙ ap ordering_reverse above in
    ap (λ o. cond (is_eq o) (Some x.1) (find path_cmp k es)) other ∙ find_there es (second _ _ h) k t (i, omega arith, e)

entry_of : (es : List (List ℕ × Target)) (k : List ℕ) (t : Target) → find path_cmp k es ≡ Some t → (e : List ℕ × Target) × Contains es e × (e.1 ≡ t)
entry_of [] k t f = cc
entry_of (x ∷ es) k t f = by (eq_by_cmp path_cmp k x.0) f (entry_of es k t)
  where
    by : (b : Bool) → cond b (Some x.1) (find path_cmp k es) ≡ Some t → (find path_cmp k es ≡ Some t → (e : List ℕ × Target) × Contains es e × (e.1 ≡ t))
        → (e : List ℕ × Target) × Contains (x ∷ es) e × (e.1 ≡ t)
    by true f rest = (x, (zero, omega arith, refl), cc)
    by false f rest = let (e, (i, lt, is), same) = rest f in (e, (suc i, omega arith, is), same)

-- the tests of a pin, of an attached program, and of a root
pinned_test : (pins : Pins) (t : Target) → (list_any (λ pin. is_same t pin.1) (finite.entries pins) ≡ true) ↔ IsPinned pins t
pinned_test pins t = (pinned, listed)
  where
    pinned : list_any (λ pin. is_same t pin.1) (finite.entries pins) ≡ true → IsPinned pins t
    pinned h =
        let ((k, u), among, same) = one_of (λ (pin : List ℕ × Target). is_same t pin.1) (finite.entries pins) h in
        let there = subst (λ y. Contains (finite.entries pins) (k, y)) (sym (same_is t u same)) among in
        (k, finite.get-entries pins k ∙ find_there (finite.entries pins) (finite.entries_sorted pins) k t there)

    listed : IsPinned pins t → list_any (λ pin. is_same t pin.1) (finite.entries pins) ≡ true
    listed (path, e) =
        let (pin, among, same) = entry_of (finite.entries pins) path t (sym (finite.get-entries pins path) ∙ e) in
        any_of (λ (p : List ℕ × Target). is_same t p.1) (finite.entries pins) pin among (ap (is_same t) same ∙ same_itself t)

prog_of : (t : Target) (o : Option ℕ) → is_prog t o ≡ true → (id : ℕ) × (t ≡ Prog id) × (o ≡ Some id)
prog_of t None e = cc
prog_of t (Some id) e = (id, same_is t (Prog id) e, refl)

attached_test : (devices : List Device) (t : Target) → (list_any (λ device. is_prog t device.prog) devices ≡ true) ↔ IsAttached devices t
attached_test devices t = (attached, listed)
  where
    attached : list_any (λ device. is_prog t device.prog) devices ≡ true → IsAttached devices t
    attached h =
        let (device, (k, lt, e), passes) = one_of (λ (d : Device). is_prog t d.prog) devices h in
        let (id, same, prog) = prog_of t device.prog passes in
        (id, same, (k, device, lt, e, prog))

    listed : IsAttached devices t → list_any (λ device. is_prog t device.prog) devices ≡ true
    listed (id, same, (k, device, lt, e, prog)) =
        any_of (λ (d : Device). is_prog t d.prog) devices device (k, lt, e) (ap (is_prog t) prog ∙ ap (is_same t) (sym same) ∙ same_itself t)

root_test : (pins : Pins) (devices : List Device) (t : Target) → (is_root pins devices t ≡ true) ↔ IsRoot pins devices t
root_test pins devices t = (named, listed)
  where
    named : is_root pins devices t ≡ true → IsRoot pins devices t
    named h = elim (or_cases _ _ h) [ inl x ↦ inl ((pinned_test pins t).0 x) | inr y ↦ inr ((attached_test devices t).0 y) ]

    listed : IsRoot pins devices t → is_root pins devices t ≡ true
    listed (inl x) = left_or _ _ ((pinned_test pins t).1 x)
    listed (inr y) = right_or _ _ ((attached_test devices t).1 y)

pub live_is : (pins : Pins) (devices : List Device) (links : Links) (target : Target) → IsReachability pins devices links target
unfolding is_live
live_is pins devices links target =
    let alike = reaches_alike links (root_test pins devices) target in
    (λ h. alike.0 (sound (is_root pins devices) links (length links) target h), λ r. complete (is_root pins devices) links (alike.1 r))
