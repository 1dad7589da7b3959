use Rattle.std.proofs.Common.{◌≡◌, ℕ, ◌≤◌, ◌<◌, inl, inr, false, ◌==◌, List, length, get_or, Result, Ok, Err, is_ok, sym, ◌∙◌, arith}
use Rattle.std.specs.Result.{MatchResult}
use Rattle.std.proofs.lemmas.List.Folds.{list_any_at, list_any_none}
use Rattle.std.proofs.lemmas.List.Elements.{All-from_get_or}
use Rattle.std.proofs.lemmas.List.Sorted.{searched}
use Rattle.std.proofs.lemmas.Bool.{cases_lt}
use Rattle.std.proofs.lemmas.Bool.Decides.{nat_tests}
use Rattle.bt_objects.specs.Ids.{is_among}
use Rattle.bt_objects.proofs.keep.is_among.Goals as goal

found : (ids : List ℕ) (id : ℕ) (r : Result ℕ ℕ) → MatchResult r (λ i. (i < length ids) × (get_or ids i 0 ≡ id)) (λ i. (i ≤ length ids) × ((k : ℕ) → k < i → get_or ids k 0 < id) × ((k : ℕ) → i ≤ k → k < length ids → id < get_or ids k 0)) → is_ok r ≡ is_among ids id
found ids id (Ok i) h = sym (list_any_at (λ other. other == id) ids i 0 h.0 (grind (arith, nat_tests, h.1)))
found ids id (Err i) h = sym (list_any_none (λ other. other == id) ids (All-from_get_or (λ other. (other == id) ≡ false) ids 0 (λ k below. apart k below)))
  where
    apart : (k : ℕ) → k < length ids → (get_or ids k 0 == id) ≡ false
    apart k below = elim (cases_lt k i) [ inl less ↦ (let l = h.1 k less in grind (arith, nat_tests, l)) | inr ge ↦ (let l = h.2 k ge below in grind (arith, nat_tests, l)) ]

pub returns : goal.returns
returns c = c.is_ok.ensures.value ∙ found c.args.ids.now c.args.id c.binary_search.result (searched c.args.ids.now c.args.id c.binary_search.result c.binary_search.ensures.position c.requires)
