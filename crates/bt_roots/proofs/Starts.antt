-- The objects that the roots name, as lists.
use Rattle.std.proofs.Common.{◌≡◌, ◌⊎◌, ◌↔◌, ℕ, zero, suc, List, [], ◌∷◌, ◌++◌, Option, None, Some, refl, sym, ap, subst, ◌∙◌, inl, inr, arith, Contains}
use Rattle.std.specs.List.{filter_map, cons_option}
use Rattle.std.specs.Option.{option_map}
use Rattle.std.specs.BTreeMap.{BTreeMap, IsOrdered, values}
use Rattle.std.specs.Cmp.Lexicographic.{nat_list_cmp_total}
use Rattle.std.specs.FinMap.{nat_cmp-IsAntisymmetric, slice_cmp-IsAntisymmetric}
use Rattle.std.proofs.lemmas.Map.Views.{btree_map_get_iff}
use Rattle.std.proofs.lemmas.Map.Made.{Contains-from_values_of, Contains-values_of}
use Rattle.std.proofs.lemmas.List.Elements.{Contains-append_left, Contains-append_right, Contains-append_cases}
use Rattle.bt_roots.specs.declared.target.Target.{Target}
use Rattle.bt_roots.specs.declared.target.Target.TheVariants.{Prog}
use Rattle.bt_roots.specs.declared.device.Device.{Device}
use Rattle.bt_roots.specs.View.{path_cmp}
use Rattle.bt_roots.specs.Slots.{pins_of}
use Rattle.bt_roots.specs.Reachable.{IsPinned, IsAttached}
use Rattle.bt_roots.proofs.SlotLemmas.{held, entry_at, get-pins_of}

Contains-cons : {Y : Type 0} (x y : Y) (ys : List Y) → Contains ys y → Contains (x ∷ ys) y
Contains-cons x y ys (k, lt, e) = (suc k, omega arith, e)

Contains-cons_option : {Y : Type 0} (y : Y) (ys : List Y) (o : Option Y) → Contains ys y → Contains (cons_option o ys) y
Contains-cons_option y ys None h = h
Contains-cons_option y ys (Some v) h = Contains-cons v y ys h

module _ {X Y : Type 0} where
  abbrev ComesFrom : (X → Option Y) → List X → Y → Type 0
  ComesFrom f xs y = (x : X) × Contains xs x × (f x ≡ Some y)

  later : (f : X → Option Y) (x : X) (xs : List X) (y : Y) → ComesFrom f xs y → ComesFrom f (x ∷ xs) y
  later f x xs y (z, (k, lt, e), is) = (z, (suc k, omega arith, e), is)

  first_or_later : (f : X → Option Y) (x : X) (xs : List X) (y : Y) (o : Option Y) → f x ≡ o → (Contains (filter_map f xs) y → ComesFrom f xs y)
      → Contains (cons_option o (filter_map f xs)) y → ComesFrom f (x ∷ xs) y
  first_or_later f x xs y None e rest h = later f x xs y (rest h)
  first_or_later f x xs y (Some v) e rest (zero, lt, is) = (x, (zero, omega arith, refl), e ∙ ap Some is)
  first_or_later f x xs y (Some v) e rest (suc k, lt, is) = later f x xs y (rest (k, omega arith, is))

  -- what a value comes from
  pub from_filter_map : (f : X → Option Y) (xs : List X) (y : Y) → Contains (filter_map f xs) y → ComesFrom f xs y
  from_filter_map f [] y (k, lt, e) = absurd (omega arith)
  from_filter_map f (x ∷ xs) y h = first_or_later f x xs y (f x) refl (from_filter_map f xs y) h

  -- and what comes of it
  pub to_filter_map : (f : X → Option Y) (xs : List X) (x : X) (y : Y) → Contains xs x → f x ≡ Some y → Contains (filter_map f xs) y
  to_filter_map f [] x y (k, lt, e) is = absurd (omega arith)
  to_filter_map f (z ∷ xs) x y (zero, lt, e) is = subst (λ o. Contains (cons_option o (filter_map f xs)) y) (sym (ap f e ∙ is)) (zero, omega arith, refl)
  to_filter_map f (z ∷ xs) x y (suc k, lt, e) is = Contains-cons_option y (filter_map f xs) (f z) (to_filter_map f xs x y (k, omega arith, e) is)

held_some : (entry : Option (Option Target)) (target : Target) → held entry ≡ Some target → entry ≡ Some (Some target)
held_some None target e = cc
held_some (Some o) target e = ap Some e

-- the pinned objects are the values there
pub pinned_values : (slots : BTreeMap (List ℕ) (Option Target)) → IsOrdered path_cmp slots
    → (target : Target) → Contains (filter_map (λ o. o) (values slots)) target ↔ IsPinned (pins_of slots.entries) target
pinned_values slots ordered target = (pinned, valued)
  where
    found : (path : List ℕ) → (entry_at slots.entries path ≡ Some (Some target)) ↔ Contains slots.entries (path, Some target)
    found path = btree_map_get_iff nat_list_cmp_total (slice_cmp-IsAntisymmetric nat_cmp-IsAntisymmetric) slots ordered path (Some target)

    pinned : Contains (filter_map (λ o. o) (values slots)) target → IsPinned (pins_of slots.entries) target
    pinned h =
        let (o, among, is) = from_filter_map (λ o. o) (values slots) target h in
        let (path, entry) = Contains-from_values_of slots.entries (Some target) (subst (λ v. Contains (values slots) v) is among) in
        (path, get-pins_of slots.entries path ∙ ap held ((found path).1 entry))

    valued : IsPinned (pins_of slots.entries) target → Contains (filter_map (λ o. o) (values slots)) target
    valued (path, e) =
        let entry = (found path).0 (held_some (entry_at slots.entries path) target (sym (get-pins_of slots.entries path) ∙ e)) in
        to_filter_map (λ o. o) (values slots) (Some target) target (Contains-values_of slots.entries path (Some target) entry) refl

as_prog : (o : Option ℕ) (target : Target) → option_map Prog o ≡ Some target → (id : ℕ) × (target ≡ Prog id) × (o ≡ Some id)
as_prog None target e = cc
as_prog (Some id) target e = (id, cc, refl)

-- the attached objects are the programs there
pub attached_progs : (devices : List Device) (target : Target) → Contains (filter_map (λ device. option_map Prog device.prog) devices) target ↔ IsAttached devices target
attached_progs devices target = (attached, listed)
  where
    attached : Contains (filter_map (λ device. option_map Prog device.prog) devices) target → IsAttached devices target
    attached h =
        let (device, (k, lt, e), is) = from_filter_map (λ (d : Device). option_map Prog d.prog) devices target h in
        let (id, same, prog) = as_prog device.prog target is in
        (id, same, (k, device, lt, e, prog))

    listed : IsAttached devices target → Contains (filter_map (λ device. option_map Prog device.prog) devices) target
    listed (id, same, (k, device, lt, e, prog)) =
        to_filter_map (λ (d : Device). option_map Prog d.prog) devices device target (k, lt, e) (ap (option_map Prog) prog ∙ ap Some (sym same))

-- both together
pub both_lists : (pins progs both : List Target) (P A : Target → Type 0) → both ≡ pins ++ progs
    → ((t : Target) → Contains pins t ↔ P t) → ((t : Target) → Contains progs t ↔ A t) → (t : Target) → Contains both t ↔ (P t ⊎ A t)
both_lists pins progs both P A e p a t = (
  λ h. elim (Contains-append_cases pins progs t (subst (λ l. Contains l t) e h)) [ inl x ↦ inl ((p t).0 x) | inr y ↦ inr ((a t).0 y) ],
  λ h. subst (λ l. Contains l t) (sym e) (either h),
)
  where
    either : P t ⊎ A t → Contains (pins ++ progs) t
    either (inl x) = Contains-append_left pins progs t ((p t).1 x)
    either (inr y) = Contains-append_right pins progs t ((a t).1 y)
