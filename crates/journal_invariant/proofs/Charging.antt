-- Boxes charge no more than those that they are among; with one box more they charge at most its charge more; and what a book
-- charges is the sum of its boxes'.
use Rattle.std.proofs.Common.{◌≡◌, inl, inr, ℕ, ◌+◌, ◌≤◌, Bool, cond, not, T, List, [], ◌∷◌, refl, sym, ◌∙◌, ap, arith}
use Rattle.std.specs.Prelude.{filter, sum_by, Option, Some, None, is_some}
use Rattle.std.specs.Ordering.{nat_cmp}
use Rattle.std.specs.declared.cmp.Ordering.{Ordering}
use Rattle.std.specs.declared.cmp.Ordering.TheVariants.{Less, Equal, Greater}
use Rattle.std.specs.Cmp.{nat_cmp_total}
use Rattle.std.specs.FinMap as map
use Rattle.std.specs.FinMap.{nat_cmp-IsAntisymmetric, put}
use Rattle.std.specs.FinMap.Entries.{by_order, is_sorted, is_sorted-where_key, find-where_key}
use Rattle.std.proofs.lemmas.List.{nil_from_length}
use Rattle.std.proofs.lemmas.List.Sums.{sum_by-cons}
use Rattle.std.proofs.lemmas.List.Filters.{sum_by-filter_both}
use Rattle.bt_objects.specs.declared.make.Make.{Make}
use Rattle.bt_objects.specs.ById.{ById}
use Rattle.host_state.specs.State.{State}
use Rattle.host_state.specs.World.{makes_in, charged_of}
use Rattle.journal_model.specs.Book.{PlainBook, kept_states, makes_of}
use Rattle.journal_model.specs.Well.{Each, OneOf, Tells}
use Rattle.journal_invariant.specs.Laws.{ChargesOnce}
use Rattle.journal_model.proofs.Boxes.{with_box}
use Rattle.journal_model.proofs.Charges.{tell_themselves}

-- ---- some of the boxes
abbrev charge_in : ℕ × Make → ℕ
charge_in e = e.1.charge

abbrev Among : ById Make → ById Make → Type 0
Among few many = (id : ℕ) (make : Make) → map.get few id ≡ Some make → map.get many id ≡ Some make

-- the boxes whose ids pass a test
abbrev listed : ById Make → (ℕ → Bool) → List (ℕ × Make)
listed m p = filter (λ e. p e.0) (map.entries m)

abbrev passing : ById Make → (ℕ → Bool) → ById Make
passing m p = map.from_sorted (listed m p)

ascends : (m : ById Make) (p : ℕ → Bool) → T (is_sorted nat_cmp (listed m p))
ascends m p = is_sorted-where_key nat_cmp p (map.entries m) (map.entries_sorted m)

passing_charge : (m : ById Make) (p : ℕ → Bool) → charged_of (passing m p) ≤ charged_of m
passing_charge m p =
    let parts : sum_by charge_in (listed m p) + sum_by charge_in (listed m (λ id. not (p id))) ≡ sum_by charge_in (map.entries m) =
    sum_by-filter_both (λ (e : ℕ × Make). p e.0) (λ (e : ℕ × Make). not (p e.0)) (λ e. refl) charge_in (map.entries m) in
    omega (arith, parts, ap (sum_by charge_in) (map.entries-from_sorted nat_cmp (listed m p) (ascends m p)))

get-passing : (m : ById Make) (p : ℕ → Bool) (q : ℕ) → map.get (passing m p) q ≡ cond (p q) (map.get m q) None
get-passing m p q =
    map.get-from_sorted nat_cmp (listed m p) q (ascends m p)
    ∙ find-where_key nat_cmp p q (λ x tied. ap p (sym (nat_cmp-IsAntisymmetric q x tied))) (map.entries m)
    ∙ ap (λ o. cond (p q) o None) (sym (map.get-entries m q))

few_pass : (few many : ById Make) → Among few many → few ≡ passing many (map.contains_key few)
few_pass few many among = map.same_map nat_cmp_total nat_cmp-IsAntisymmetric few (passing many (map.contains_key few)) (λ q. at q (map.get few q) refl ∙ sym (get-passing many (map.contains_key few) q))
  where
    at : (q : ℕ) (o : Option Make) → map.get few q ≡ o → map.get few q ≡ cond (map.contains_key few q) (map.get many q) None
    at q None e = e ∙ sym (ap (λ b. cond b (map.get many q) None) (ap is_some e))
    at q (Some make) e = e ∙ sym (ap (λ b. cond b (map.get many q) None) (ap is_some e) ∙ among q make e)

among_charge : (few many : ById Make) → Among few many → charged_of few ≤ charged_of many
among_charge few many among = let less = passing_charge many (map.contains_key few) in omega (arith, less, ap charged_of (few_pass few many among))

-- no boxes charge nothing
abbrev pub no_boxes : ById Make
no_boxes = map.empty

pub no_charge : charged_of no_boxes ≡ 0
no_charge = ap (sum_by charge_in) (nil_from_length (map.entries no_boxes) (sym (map.len-entries no_boxes) ∙ map.len-empty nat_cmp Make))

-- ---- one box more
put_charge : (id : ℕ) (make : Make) (es : List (ℕ × Make)) → sum_by charge_in (put nat_cmp id make es) ≤ sum_by charge_in es + make.charge
put_charge id make [] = omega arith
put_charge id make (e ∷ es) = by (nat_cmp id e.0) (put_charge id make es)
  where
    by : (order : Ordering) → sum_by charge_in (put nat_cmp id make es) ≤ sum_by charge_in es + make.charge
        → sum_by charge_in (by_order order ((id, make) ∷ e ∷ es) ((e.0, make) ∷ es) (e ∷ put nat_cmp id make es)) ≤ sum_by charge_in (e ∷ es) + make.charge
    by Less rest = omega (arith, sum_by-cons charge_in (id, make) (e ∷ es))
    by Equal rest = omega (arith, sum_by-cons charge_in (e.0, make) es, sum_by-cons charge_in e es)
    by Greater rest = omega (arith, rest, sum_by-cons charge_in e (put nat_cmp id make es), sum_by-cons charge_in e es)

-- what a new box charges, if there is one
abbrev pub charge_of : Option (ℕ × Make) → ℕ
charge_of None = 0
charge_of (Some box) = box.1.charge

pub with_box_charge : (box : Option (ℕ × Make)) (makes : ById Make) → charged_of (with_box box makes) ≤ charged_of makes + charge_of box
with_box_charge None makes = omega arith
with_box_charge (Some box) makes = omega (arith, put_charge box.0 box.1 (map.entries makes), ap (sum_by charge_in) (map.entries-insert nat_cmp_total makes box.0 box.1))

-- ---- the boxes of states
told : (makes : ById Make) (states : List State) (id : ℕ) (make : Make) → Each (Tells makes) states → OneOf (λ s. map.get (makes_in s) id ≡ Some make) states → map.get makes id ≡ Some make
told makes [] id make tells one = absurd one
told makes (s ∷ ss) id make tells (inl here) = tells.0 id make here
told makes (s ∷ ss) id make tells (inr further) = told makes ss id make tells.1 further

-- if boxes tell of all states, the boxes of these states charge no more
pub told_charge : (makes : ById Make) (states : List State) → Each (Tells makes) states → charged_of (makes_of states) ≤ charged_of makes
told_charge makes states tells = among_charge (makes_of states) makes (λ id make e. told makes states id make tells ((tell_themselves makes states tells).has_map id make e))

-- ---- the charge of a book
pub charges_once : (b : PlainBook) → ChargesOnce b
charges_once b w = record { boxes = makes_of (kept_states b.line); of_maps = w.boxes; sum = refl }
