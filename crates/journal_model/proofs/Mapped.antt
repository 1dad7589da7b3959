-- Finite maps by id: what is found in those that are mapped, and in those that have one more.
use Rattle.std.proofs.Common.{◌≡◌, ◌⊎◌, inl, inr, ℕ, Bool, true, false, List, [], ◌∷◌, map as each, cond, ◌&&◌, T, refl, sym, ap, subst, ◌∙◌}
use Rattle.std.specs.Prelude.{Option, Some, None, is_some, option_map}
use Rattle.std.specs.Ordering.{nat_cmp, eq_by_cmp, is_eq, is_lt}
use Rattle.std.specs.declared.cmp.Ordering.{Ordering}
use Rattle.std.specs.declared.cmp.Ordering.TheVariants.{Less, Equal, Greater}
use Rattle.std.specs.Cmp.{nat_cmp_total, tied_itself}
use Rattle.std.specs.FinMap as map
use Rattle.std.specs.FinMap.{nat_cmp-IsAntisymmetric, find}
use Rattle.std.specs.FinMap.Entries.{is_sorted, below_all}
use Rattle.bt_objects.specs.ById.{ById, mapped}

equal_of : (order : Ordering) → is_eq order ≡ true → order ≡ Equal
equal_of Less e = cc
equal_of Equal e = refl
equal_of Greater e = cc

-- ids that are tied are the same
pub same_of : (q id : ℕ) → eq_by_cmp nat_cmp q id ≡ true → q ≡ id
same_of q id tied = nat_cmp-IsAntisymmetric q id (equal_of (nat_cmp q id) tied)

pub is_itself : (id : ℕ) → eq_by_cmp nat_cmp id id ≡ true
is_itself id = ap is_eq (tied_itself nat_cmp_total id)

-- ---- mapped
find-each : {X Y : Type 0} (f : ℕ → X → Y) (q : ℕ) (es : List (ℕ × X)) → find nat_cmp q (each (λ e. (e.0, f e.0 e.1)) es) ≡ option_map (f q) (find nat_cmp q es)
find-each f q [] = refl
find-each {X} {Y} f q (e ∷ es) = cases (eq_by_cmp nat_cmp q e.0) refl (find-each f q es)
  where
    cases : (b : Bool) → eq_by_cmp nat_cmp q e.0 ≡ b → find nat_cmp q (each (λ (e : ℕ × X). (e.0, f e.0 e.1)) es) ≡ option_map (f q) (find nat_cmp q es)
        → cond b (Some (f e.0 e.1)) (find nat_cmp q (each (λ (e : ℕ × X). (e.0, f e.0 e.1)) es)) ≡ option_map (f q) (cond b (Some e.1) (find nat_cmp q es))
    cases true tied rest = ap (λ k. Some (f k e.1)) (sym (same_of q e.0 tied))
    cases false apart rest = rest

below-each : {X Y : Type 0} (f : ℕ → X → Y) (k : ℕ) (es : List (ℕ × X)) → below_all nat_cmp k (each (λ e. (e.0, f e.0 e.1)) es) ≡ below_all nat_cmp k es
below-each f k [] = refl
below-each f k (e ∷ es) = ap (λ b. is_lt (nat_cmp k e.0) && b) (below-each f k es)

sorted-each : {X Y : Type 0} (f : ℕ → X → Y) (es : List (ℕ × X)) → is_sorted nat_cmp (each (λ e. (e.0, f e.0 e.1)) es) ≡ is_sorted nat_cmp es
sorted-each f [] = refl
sorted-each f (e ∷ es) = ap (λ b. b && is_sorted nat_cmp (each (λ e. (e.0, f e.0 e.1)) es)) (below-each f e.0 es) ∙ ap (λ b. below_all nat_cmp e.0 es && b) (sorted-each f es)

ascends : {X Y : Type 0} (f : ℕ → X → Y) (m : ById X) → T (is_sorted nat_cmp (each (λ e. (e.0, f e.0 e.1)) (map.entries m)))
ascends f m = subst T (sym (sorted-each f (map.entries m))) (map.entries_sorted m)

pub get-mapped : {X Y : Type 0} (f : ℕ → X → Y) (m : ById X) (q : ℕ) → map.get (mapped f m) q ≡ option_map (f q) (map.get m q)
get-mapped f m q = map.get-from_sorted nat_cmp _ q (ascends f m) ∙ find-each f q (map.entries m) ∙ ap (option_map (f q)) (sym (map.get-entries m q))

pub some-mapped : {X Y : Type 0} (f : X → Y) (o : Option X) → is_some (option_map f o) ≡ is_some o
some-mapped f None = refl
some-mapped f (Some x) = refl

-- what is mapped has the same ids
pub has-mapped : {X Y : Type 0} (f : ℕ → X → Y) (m : ById X) (q : ℕ) → map.contains_key (mapped f m) q ≡ map.contains_key m q
has-mapped f m q = ap is_some (get-mapped f m q) ∙ some-mapped (f q) (map.get m q)

-- ---- one more
-- an id that is there with one more was there, or is the new one
pub had-insert : {X : Type 0} (m : ById X) (id : ℕ) (x : X) (q : ℕ) → map.contains_key (map.insert m id x) q ≡ true → (map.contains_key m q ≡ true) ⊎ (q ≡ id)
had-insert {X} m id x q has = cases (eq_by_cmp nat_cmp q id) refl (ap is_some (sym (map.get-insert nat_cmp_total m id x q)) ∙ has)
  where
    cases : (b : Bool) → eq_by_cmp nat_cmp q id ≡ b → is_some (cond b (Some x) (map.get m q)) ≡ true → (map.contains_key m q ≡ true) ⊎ (q ≡ id)
    cases true tied h = inr (same_of q id tied)
    cases false apart h = inl h
