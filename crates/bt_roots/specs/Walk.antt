-- What a step of the walk over the links leaves: what was reached, and what is still to be walked from.
use Rattle.std.specs.Prelude.{◌≡◌, ◌⊎◌, ◌+◌, ◌≤◌, ℕ, Bool, true, false, not, ◌↔◌, List, Contains, count_by, length}
use Rattle.std.specs.Ordering.{is_lt, is_le}
use Rattle.std.specs.List.Sorted.{IsSortedByKey, IsPartitionPoint}
use Rattle.std.specs.BTreeSet.{contains}
use Rattle.bt_roots.specs.declared.target.Target.{Target}
use Rattle.bt_roots.specs.declared.reach.Reached.{Reached}
use Rattle.bt_roots.specs.TargetOrder.{target_cmp}
use Rattle.bt_roots.specs.Reachable.{Links}

-- links sorted by what they lead from
abbrev pub IsByFrom : Links → Type 0
IsByFrom links = IsSortedByKey (λ link. link.0) target_cmp links

-- the first links, so many, lead from objects below this one, and the others do not
abbrev pub SplitsBelow : Links → Target → ℕ → Type 0
SplitsBelow links from count =
    IsPartitionPoint (λ link. is_lt (target_cmp link.0 from) ≡ true) (λ link. is_lt (target_cmp link.0 from) ≡ false) links count

-- the first links, so many, lead from objects up to this one, and the others do not
abbrev pub SplitsUpto : Links → Target → ℕ → Type 0
SplitsUpto links from count =
    IsPartitionPoint (λ link. is_le (target_cmp link.0 from) ≡ true) (λ link. is_le (target_cmp link.0 from) ≡ false) links count

-- whether the object was reached
abbrev pub has : Reached → Target → Bool
has reached target = contains target_cmp reached.seen target

-- how much may still be done: the objects to come, with repeats, and those to walk from
abbrev pub left : List Target → Reached → ℕ
left targets reached = count_by (λ target. not (has reached target)) targets + length reached.todo.items

-- more was reached, all of it as P says, and what is new is to be walked from
pub record Grows (old new : Reached) (P : Target → Type 0) : Type 0 where
  pub kept : (x : Target) → has old x ≡ true → has new x ≡ true
  pub only : (x : Target) → has new x ≡ true → (has old x ≡ true) ⊎ P x
  pub todo_kept : (x : Target) → Contains old.todo.items x → Contains new.todo.items x
  pub todo_new : (x : Target) → has new x ≡ true → (has old x ≡ true) ⊎ Contains new.todo.items x
  pub todo_only : (x : Target) → Contains new.todo.items x → Contains old.todo.items x ⊎ (has new x ≡ true)
  pub less : (targets : List Target) → ((x : Target) → P x → Contains targets x) → left targets new ≤ left targets old

-- just the starts were reached, and all of them are to be walked from
pub record IsStarted (starts : List Target) (reached : Reached) : Type 0 where
  pub reached_starts : (x : Target) → (has reached x ≡ true) ↔ Contains starts x
  pub to_walk : (x : Target) → Contains reached.todo.items x ↔ Contains starts x

-- all that the links lead to from what was reached is reached too, but for what is still to be walked from
pub record IsClosedBut (reached : Reached) (links : Links) : Type 0 where
  pub todo_reached : (x : Target) → Contains reached.todo.items x → has reached x ≡ true
  pub closed : (x y : Target) → has reached x ≡ true → Contains links (x, y) → (has reached y ≡ true) ⊎ Contains reached.todo.items x
