-- Finite maps by id: what is found in those that are mapped, put into and put back.
use Rattle.std.proofs.Common.{◌≡◌, ℕ, Bool, true, false, List, [], ◌∷◌, map as each, Option, Some, None, cond, ◌&&◌, T, refl, sym, ap, subst, ◌∙◌}
use Rattle.std.specs.Option.{option_map}
use Rattle.std.specs.Ordering.{nat_cmp, eq_by_cmp, is_eq, is_lt}
use Rattle.std.specs.declared.cmp.Ordering.{Ordering}
use Rattle.std.specs.declared.cmp.Ordering.TheVariants.{Less, Equal, Greater}
use Rattle.std.specs.Cmp.{nat_cmp_total, tied_itself}
use Rattle.std.specs.FinMap as map
use Rattle.std.specs.FinMap.{nat_cmp-IsAntisymmetric, find}
use Rattle.std.specs.FinMap.Entries.{is_sorted, below_all}
use Rattle.bt_objects.specs.ById.{ById, mapped, put_at}

equal_of : (order : Ordering) → is_eq order ≡ true → order ≡ Equal
equal_of Less e = cc
equal_of Equal e = refl
equal_of Greater e = cc

-- ids that are tied are the same
pub same_of : (q id : ℕ) → eq_by_cmp nat_cmp q id ≡ true → q ≡ id
same_of q id tied = nat_cmp-IsAntisymmetric q id (equal_of (nat_cmp q id) tied)

pub is_itself : (id : ℕ) → eq_by_cmp nat_cmp id id ≡ true
is_itself id = ap is_eq (tied_itself nat_cmp_total id)

-- two finite maps in which the same is found are the same
pub same_map : {X : Type 0} (m n : ById X) → ((q : ℕ) → map.get m q ≡ map.get n q) → m ≡ n
same_map m n = map.same_map nat_cmp_total nat_cmp-IsAntisymmetric m n

pub get-put_at : {X : Type 0} (m : ById X) (id q : ℕ) (x : Option X) → map.get (put_at m id x) q ≡ cond (eq_by_cmp nat_cmp q id) x (map.get m q)
get-put_at m id q None = map.get-remove nat_cmp_total m id q
get-put_at m id q (Some x) = map.get-insert nat_cmp_total m id x q

-- by cases: the id, or another
pub at_put : {X : Type 0} (m : ById X) (id q : ℕ) (x : Option X) (P : Option X → Type 0) → (q ≡ id → P x) → P (map.get m q) → P (map.get (put_at m id x) q)
at_put {X} m id q x P here there = subst P (sym (get-put_at m id q x)) (cases (eq_by_cmp nat_cmp q id) refl)
  where
    cases : (b : Bool) → eq_by_cmp nat_cmp q id ≡ b → P (cond b x (map.get m q))
    cases true e = here (same_of q id e)
    cases false e = there

pub get-put_same : {X : Type 0} (m : ById X) (id : ℕ) (x : Option X) → map.get (put_at m id x) id ≡ x
get-put_same m id x = get-put_at m id id x ∙ ap (λ b. cond b x (map.get m id)) (is_itself id)

-- what is put where it stands changes nothing
pub put_there : {X : Type 0} (m : ById X) (id : ℕ) (x : Option X) → map.get m id ≡ x → put_at m id x ≡ m
put_there {X} m id x there = same_map (put_at m id x) m (λ q. at_put m id q x (λ o. o ≡ map.get m q) (λ is. sym there ∙ ap (map.get m) (sym is)) refl)

-- what is put twice stands as the second
pub put_twice : {X : Type 0} (m : ById X) (id : ℕ) (x y : Option X) → put_at (put_at m id x) id y ≡ put_at m id y
put_twice {X} m id x y =
    same_map _ _ (λ q. get-put_at (put_at m id x) id q y ∙ ap (cond (eq_by_cmp nat_cmp q id) y) (get-put_at m id q x) ∙ twice (eq_by_cmp nat_cmp q id) (map.get m q) ∙ sym (get-put_at m id q y))
  where
    twice : (b : Bool) (o : Option X) → cond b y (cond b x o) ≡ cond b y o
    twice true o = refl
    twice false o = refl

-- ---- mapped
find-each : {X Y : Type 0} (f : ℕ → X → Y) (q : ℕ) (es : List (ℕ × X)) → find nat_cmp q (each (λ e. (e.0, f e.0 e.1)) es) ≡ option_map (f q) (find nat_cmp q es)
find-each f q [] = refl
find-each {X} {Y} f q (e ∷ es) = cases (eq_by_cmp nat_cmp q e.0) refl (find-each f q es)
  where
    cases : (b : Bool) → eq_by_cmp nat_cmp q e.0 ≡ b → find nat_cmp q (each (λ (e : ℕ × X). (e.0, f e.0 e.1)) es) ≡ option_map (f q) (find nat_cmp q es)
        → cond b (Some (f e.0 e.1)) (find nat_cmp q (each (λ (e : ℕ × X). (e.0, f e.0 e.1)) es)) ≡ option_map (f q) (cond b (Some e.1) (find nat_cmp q es))
    cases true tied rest = ap (λ k. Some (f k e.1)) (sym (same_of q e.0 tied))
    cases false apart rest = rest

below-each : {X Y : Type 0} (f : ℕ → X → Y) (k : ℕ) (es : List (ℕ × X)) → below_all nat_cmp k (each (λ e. (e.0, f e.0 e.1)) es) ≡ below_all nat_cmp k es
below-each f k [] = refl
below-each f k (e ∷ es) = ap (λ b. is_lt (nat_cmp k e.0) && b) (below-each f k es)

sorted-each : {X Y : Type 0} (f : ℕ → X → Y) (es : List (ℕ × X)) → is_sorted nat_cmp (each (λ e. (e.0, f e.0 e.1)) es) ≡ is_sorted nat_cmp es
sorted-each f [] = refl
sorted-each f (e ∷ es) = ap (λ b. b && is_sorted nat_cmp (each (λ e. (e.0, f e.0 e.1)) es)) (below-each f e.0 es) ∙ ap (λ b. below_all nat_cmp e.0 es && b) (sorted-each f es)

ascends : {X Y : Type 0} (f : ℕ → X → Y) (m : ById X) → T (is_sorted nat_cmp (each (λ e. (e.0, f e.0 e.1)) (map.entries m)))
ascends f m = subst T (sym (sorted-each f (map.entries m))) (map.entries_sorted m)

pub entries-mapped : {X Y : Type 0} (f : ℕ → X → Y) (m : ById X) → map.entries (mapped f m) ≡ each (λ e. (e.0, f e.0 e.1)) (map.entries m)
entries-mapped f m = map.entries-from_sorted nat_cmp _ (ascends f m)

pub get-mapped : {X Y : Type 0} (f : ℕ → X → Y) (m : ById X) (q : ℕ) → map.get (mapped f m) q ≡ option_map (f q) (map.get m q)
get-mapped f m q = map.get-from_sorted nat_cmp _ q (ascends f m) ∙ find-each f q (map.entries m) ∙ ap (option_map (f q)) (sym (map.get-entries m q))

-- a function that leaves each value there as it is leaves all
pub mapped_same : {X : Type 0} (f : ℕ → X → X) (m : ById X) → ((q : ℕ) (x : X) → map.get m q ≡ Some x → f q x ≡ x) → mapped f m ≡ m
mapped_same {X} f m same = same_map _ _ (λ q. get-mapped f m q ∙ at q (map.get m q) refl)
  where
    at : (q : ℕ) (o : Option X) → map.get m q ≡ o → option_map (f q) o ≡ o
    at q None e = refl
    at q (Some x) e = ap Some (same q x e)

-- two functions that make the same of each value there
pub mapped_alike : {X Y : Type 0} (f g : ℕ → X → Y) (m : ById X) → ((q : ℕ) (x : X) → map.get m q ≡ Some x → f q x ≡ g q x) → mapped f m ≡ mapped g m
mapped_alike {X} {Y} f g m same = same_map _ _ (λ q. get-mapped f m q ∙ at q (map.get m q) refl ∙ sym (get-mapped g m q))
  where
    at : (q : ℕ) (o : Option X) → map.get m q ≡ o → option_map (f q) o ≡ option_map (g q) o
    at q None e = refl
    at q (Some x) e = ap Some (same q x e)

pub mapped-mapped : {X Y Z : Type 0} (f : ℕ → Y → Z) (g : ℕ → X → Y) (m : ById X) → mapped f (mapped g m) ≡ mapped (λ q x. f q (g q x)) m
mapped-mapped {X} {Y} {Z} f g m =
    same_map _ _ (λ q. get-mapped f (mapped g m) q ∙ ap (option_map (f q)) (get-mapped g m q) ∙ at q (map.get m q) ∙ sym (get-mapped (λ q x. f q (g q x)) m q))
  where
    at : (q : ℕ) (o : Option X) → option_map (f q) (option_map (g q) o) ≡ option_map (λ x. f q (g q x)) o
    at q None = refl
    at q (Some x) = refl

option_map-cond : {X Y : Type 0} (f : X → Y) (b : Bool) (x o : Option X) → option_map f (cond b x o) ≡ cond b (option_map f x) (option_map f o)
option_map-cond f true x o = refl
option_map-cond f false x o = refl

-- to put and to map is to map and to put
pub mapped-put : {X Y : Type 0} (f : ℕ → X → Y) (m : ById X) (id : ℕ) (x : Option X) → mapped f (put_at m id x) ≡ put_at (mapped f m) id (option_map (f id) x)
mapped-put {X} {Y} f m id x =
    same_map _ _ (λ q.
    get-mapped f (put_at m id x) q ∙ ap (option_map (f q)) (get-put_at m id q x) ∙ option_map-cond (f q) (eq_by_cmp nat_cmp q id) x (map.get m q)
    ∙ here q (eq_by_cmp nat_cmp q id) refl
    ∙ ap (cond (eq_by_cmp nat_cmp q id) (option_map (f id) x)) (sym (get-mapped f m q))
    ∙ sym (get-put_at (mapped f m) id q (option_map (f id) x)))
  where
    here : (q : ℕ) (b : Bool) → eq_by_cmp nat_cmp q id ≡ b → cond b (option_map (f q) x) (option_map (f q) (map.get m q)) ≡ cond b (option_map (f id) x) (option_map (f q) (map.get m q))
    here q true tied = ap (λ k. option_map (f k) x) (same_of q id tied)
    here q false apart = refl

-- what stands in Some
abbrev given : {X : Type 0} → X → Option X → X
given x None = x
given x (Some y) = y

pub same_some : {X : Type 0} {x y : X} → Some x ≡ Some y → x ≡ y
same_some {x = x} e = ap (given x) e
