-- A search among ascending objects finds just those that are listed.
use Rattle.std.proofs.Common.{◌≡◌, ◌≤◌, ◌<◌, ℕ, false, inl, inr, List, length, get_or, Result, Ok, Err, is_ok, IfOk, refl, sym, ap, subst, ◌∙◌, arith}
use Rattle.std.specs.List.{HoldsAt}
use Rattle.std.specs.List.Sorted.{IsBinarySearchResult}
use Rattle.std.specs.declared.cmp.Ordering.{Ordering}
use Rattle.std.specs.declared.cmp.Ordering.TheVariants.{Less, Equal, Greater}
use Rattle.std.specs.Ordering.{ordering_index, ordering_reverse, is_eq}
use Rattle.std.proofs.lemmas.List.Folds.{list_any_at, list_any_none}
use Rattle.std.proofs.lemmas.List.Elements.{All-from_get_or}
use Rattle.std.proofs.lemmas.Map.Keys.{Less-from_sorted}
use Rattle.std.proofs.lemmas.List.{get_or_past}
use Rattle.std.proofs.lemmas.Bool.{cases_lt}
use Rattle.bt_roots.specs.declared.target.Target.{Target}
use Rattle.bt_roots.specs.declared.target.Target.TheVariants.{Map, Prog}
use Rattle.bt_roots.specs.TargetOrder.{target_cmp, chains, turns, tied_targets}
use Rattle.bt_roots.specs.Live.{is_same}
use Rattle.bt_roots.specs.Reachable.{IsAscending}
use Rattle.host_state.specs.Settled.{is_listed}

-- what comes later compares no lower
later : (a b x : Target) → target_cmp a b ≡ Less → ordering_index (target_cmp a x) ≤ ordering_index (target_cmp b x)
later a b x below = cases (target_cmp b x) refl
  where
    most : (o : Ordering) → ordering_index o ≤ 2
    most Less = omega arith
    most Equal = omega arith
    most Greater = omega arith

    cases : (o : Ordering) → target_cmp b x ≡ o → ordering_index (target_cmp a x) ≤ ordering_index o
    cases Less e = subst (λ o. ordering_index o ≤ 0) (sym (chains a b x below e)) (omega arith)
    cases Equal e = subst (λ o. ordering_index o ≤ 1) (sym (ap (target_cmp a) (sym (tied_targets b x e)) ∙ below)) (omega arith)
    cases Greater e = most (target_cmp a x)

rises : (xs : List Target) (x : Target) → IsAscending xs → (a b : ℕ) (d : Target) → a ≤ b → b < length xs → ordering_index (target_cmp (get_or xs a d) x) ≤ ordering_index (target_cmp (get_or xs b d) x)
rises xs x up a b d le within = elim (cases_lt a b) [
  | inl less ↦ later (get_or xs a d) (get_or xs b d) x (Less-from_sorted target_cmp xs a b d up less within)
  | inr ge ↦ (let same : a ≡ b = omega (arith, le, ge) in subst (λ k. ordering_index (target_cmp (get_or xs a d) x) ≤ ordering_index (target_cmp (get_or xs k d) x)) same (omega arith))
]

apart_of : (x y : Target) → target_cmp y x ≡ Less → is_same x y ≡ false
apart_of x y e = ap is_eq (turns x y ∙ ap ordering_reverse e)

apart_above : (x y : Target) → target_cmp y x ≡ Greater → is_same x y ≡ false
apart_above x y e = ap is_eq (turns x y ∙ ap ordering_reverse e)

pub searched : (xs : List Target) (x : Target) (r : Result ℕ ℕ) → IsAscending xs → IfOk r (HoldsAt (λ y. target_cmp y x ≡ Equal) xs) → IsBinarySearchResult (λ y. target_cmp y x) xs r → is_ok r ≡ is_listed xs x
searched xs x (Ok i) up there found =
    sym (list_any_at (is_same x) xs i x (within x there) (ap is_eq (turns x (get_or xs i x) ∙ ap ordering_reverse (there x))))
  where
    -- past the end another object would be found
    within : (x : Target) → ((d : Target) → target_cmp (get_or xs i d) x ≡ Equal) → i < length xs
    within (Map id) there = elim (cases_lt i (length xs)) [ inl less ↦ less | inr ge ↦ cc (sym (ap (λ t. target_cmp t (Map id)) (get_or_past xs i (Prog 0) ge)) ∙ there (Prog 0)) ]
    within (Prog id) there = elim (cases_lt i (length xs)) [ inl less ↦ less | inr ge ↦ cc (sym (ap (λ t. target_cmp t (Prog id)) (get_or_past xs i (Map 0) ge)) ∙ there (Map 0)) ]
searched xs x (Err i) up there found =
    let parted = found (rises xs x up) in
    sym (list_any_none (is_same x) xs (All-from_get_or (λ y. is_same x y ≡ false) xs x (λ k below. elim (cases_lt k i) [
      | inl less ↦ apart_of x (get_or xs k x) (parted.0 k x (omega arith) less)
      | inr ge ↦ apart_above x (get_or xs k x) (parted.1 k x ge below)
    ])))
