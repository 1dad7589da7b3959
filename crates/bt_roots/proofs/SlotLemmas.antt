-- The entries as a finite map of pins and a finite set of paths, by what is found at each path.
use Rattle.std.proofs.Common.{◌≡◌, ℕ, Bool, true, false, ◌||◌, List, [], ◌∷◌, map, Option, Some, None, is_some, cond, refl, sym, ap, ◌∙◌}
use Rattle.std.specs.Ordering.{eq_by_cmp}
use Rattle.std.specs.Prelude.{IsTrue}
use Rattle.std.specs.List.{list_any}
use Rattle.std.specs.Cmp.{eq_by_cmp_equiv}
use Rattle.std.specs.Cmp.Lexicographic.{nat_list_cmp_total}
use Rattle.std.specs.Map.{lookup}
use Rattle.std.specs.FinMap as finite
use Rattle.std.specs.FinSet as set
use Rattle.std.specs.FinMap.{nat_cmp-IsAntisymmetric, slice_cmp-IsAntisymmetric}
use Rattle.std.specs.BTreeMap.{is_at}
use Rattle.bt_roots.specs.declared.target.Target.{Target}
use Rattle.bt_roots.specs.View.{path_cmp, Pins}
use Rattle.bt_roots.specs.Exchange.{put_at}
use Rattle.bt_roots.specs.Slots.{Slots, pins_of, room_of}

-- what an entry that was found holds
abbrev pub held : Option (Option Target) → Option Target
held None = None
held (Some target) = target

-- the entry of the path
abbrev pub entry_at : Slots → List ℕ → Option (Option Target)
entry_at slots path = lookup (is_at (path_cmp path)) slots

pub get-put_at : (pins : Pins) (path q : List ℕ) (target : Option Target)
    → finite.get (put_at pins path target) q ≡ cond (eq_by_cmp path_cmp q path) target (finite.get pins q)
get-put_at pins path q None = finite.get-remove nat_list_cmp_total pins path q
get-put_at pins path q (Some target) = finite.get-insert nat_list_cmp_total pins path target q

held-cond : (b : Bool) (x : Option Target) (y : Option (Option Target)) → cond b x (held y) ≡ held (cond b (Some x) y)
held-cond true x y = refl
held-cond false x y = refl

-- a pin is what the entry of its path holds
pub get-pins_of : (slots : Slots) (path : List ℕ) → finite.get (pins_of slots) path ≡ held (entry_at slots path)
get-pins_of [] path = finite.get-empty path_cmp path
get-pins_of (slot ∷ slots) path =
    get-put_at (pins_of slots) slot.0 path slot.1
    ∙ ap (cond (eq_by_cmp path_cmp path slot.0) slot.1) (get-pins_of slots path)
    ∙ held-cond (eq_by_cmp path_cmp path slot.0) slot.1 (entry_at slots path)

is_some-cond : (b : Bool) (x : Option Target) (y : Option (Option Target)) → (b || is_some y) ≡ is_some (cond b (Some x) y)
is_some-cond true x y = refl
is_some-cond false x y = refl

any_key : (slots : Slots) (path : List ℕ) → list_any (eq_by_cmp path_cmp path) (map (λ slot. slot.0) slots) ≡ is_some (entry_at slots path)
any_key [] path = refl
any_key (slot ∷ slots) path = ap (λ b. eq_by_cmp path_cmp path slot.0 || b) (any_key slots path) ∙ is_some-cond (eq_by_cmp path_cmp path slot.0) slot.1 (entry_at slots path)

-- a path has room if it has an entry
pub contains-room_of : (slots : Slots) (path : List ℕ) → set.contains (room_of slots) path ≡ is_some (entry_at slots path)
contains-room_of slots path = set.contains-from_list nat_list_cmp_total (map (λ slot. slot.0) slots) path ∙ any_key slots path

turn_round : (path q : List ℕ) → eq_by_cmp path_cmp path q ≡ eq_by_cmp path_cmp q path
turn_round = (eq_by_cmp_equiv nat_list_cmp_total).symm

-- what holds the target at the path, and else what it held
abbrev pub PutsAt : Slots → Slots → List ℕ → Option Target → Type 0
PutsAt old new path target = (q : List ℕ) → entry_at new q ≡ cond (is_at (path_cmp path) q) (Some target) (entry_at old q)

pub pins_put : (old new : Slots) (path : List ℕ) (target : Option Target) → PutsAt old new path target → pins_of new ≡ put_at (pins_of old) path target
pins_put old new path target puts =
    finite.same_map nat_list_cmp_total (slice_cmp-IsAntisymmetric nat_cmp-IsAntisymmetric) _ _ (λ q.
    get-pins_of new q
    ∙ ap held (puts q)
    ∙ sym (held-cond (is_at (path_cmp path) q) target (entry_at old q))
    ∙ ap (λ b. cond b target (held (entry_at old q))) (turn_round path q)
    ∙ ap (cond (eq_by_cmp path_cmp q path) target) (sym (get-pins_of old q))
    ∙ sym (get-put_at (pins_of old) path q target))

pub room_put : (old new : Slots) (path : List ℕ) (target : Option Target) → PutsAt old new path target → room_of new ≡ set.insert (room_of old) path
room_put old new path target puts =
    set.same_set nat_list_cmp_total (slice_cmp-IsAntisymmetric nat_cmp-IsAntisymmetric) _ _ (λ q.
    contains-room_of new q
    ∙ ap is_some (puts q)
    ∙ sym (is_some-cond (is_at (path_cmp path) q) target (entry_at old q))
    ∙ ap (λ b. b || is_some (entry_at old q)) (turn_round path q)
    ∙ ap (λ b. eq_by_cmp path_cmp q path || b) (sym (contains-room_of old q))
    ∙ sym (set.contains-insert nat_list_cmp_total (room_of old) path q))

-- a path with room has an entry
pub no_room : (slots : Slots) (path : List ℕ) → entry_at slots path ≡ None → IsTrue (set.contains (room_of slots) path) → ⊥
no_room slots path none room = cc (contains-room_of slots path, ap is_some none)

-- if an object is pinned there is room
pub room_of_pin : (slots : Slots) (path : List ℕ) → is_some (finite.get (pins_of slots) path) ≡ true → IsTrue (set.contains (room_of slots) path)
room_of_pin slots path there = contains-room_of slots path ∙ there_too (entry_at slots path) (ap is_some (sym (get-pins_of slots path)) ∙ there)
  where
    there_too : (entry : Option (Option Target)) → is_some (held entry) ≡ true → is_some entry ≡ true
    there_too None e = e
    there_too (Some target) e = refl
