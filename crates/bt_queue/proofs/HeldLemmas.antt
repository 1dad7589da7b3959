-- What a queue or a stack keeps over a change and over a turning.
use Rattle.std.proofs.Common.{◌≡◌, ℕ, ◌+◌, ◌<◌, ◌≤◌, Bool, true, IsTrue, List, [], ◌∷◌, ◌++◌, length, Option, is_some, refl, ap, sym, ◌∙◌, subst, arith, length-append}
use Rattle.std.specs.List.{All}
use Rattle.std.specs.Option.{option_to_list}
use Rattle.std.proofs.lemmas.List.Elements.{All-append, All-cons, All-nil, All-tail}
use Rattle.bt_mapkind.specs.declared.attr.MapAttr.{MapAttr}
use Rattle.bt_mapkind.specs.declared.exchange.Back.{Back}
use Rattle.bt_mapkind.specs.declared.exchange.Back.TheVariants.{Ends}
use Rattle.bt_mapkind.specs.Attributes.{charge_of}
use Rattle.bt_mapkind.specs.Contents.{Contents, Items}
use Rattle.bt_mapkind.specs.Exchange.{exchanged, items_fit, one_if, front_of, rear_of}
use Rattle.bt_mapkind.specs.Answers.{IsTurned}
use Rattle.bt_mapkind.specs.Laws.{IsTurnable}
use Rattle.bt_mapkind.proofs.Ends.{FitsEnds, fits_ends_of}
use Rattle.bt_mapkind.proofs.Stays.{stays}
use Rattle.bt_queue.specs.Window.{Kept}
use Rattle.bt_queue.specs.Held.{IsHeld}
use Rattle.bt_queue.proofs.ItemsLemmas.{front_left, rear_left, length-option}

abbrev HasSize : MapAttr → List ℕ → Type 0
HasSize a v = length v ≡ a.value_size

-- without the oldest item
pub held_without_oldest : (a : MapAttr) (old new : Kept) (x : List ℕ) → IsHeld a old → old ≡ record { items = x ∷ new.items; capacity = new.capacity; size = new.size } → IsHeld a new
held_without_oldest a old new x h is =
    let items : old.items ≡ x ∷ new.items = ap (λ (k : Kept). k.items) is in
    let within : length old.items ≤ a.max_entries = h.well.sizes.0 in
    record {
      limits = h.limits;
      capacity = sym (ap (λ (k : Kept). k.capacity) is) ∙ h.capacity;
      size = sym (ap (λ (k : Kept). k.size) is) ∙ h.size;
      well = record {
        shape = h.well.shape;
        sizes = (omega (arith, ap length items), All-tail (HasSize a) x new.items (subst (All (HasSize a)) items h.well.sizes.1));
      };
    }

-- with another item at the rear
pub held_with_newest : (a : MapAttr) (old new : Kept) (x : List ℕ) → IsHeld a old → length old.items < a.max_entries → HasSize a x → new ≡ record { items = old.items ++ x ∷ []; capacity = old.capacity; size = old.size } → IsHeld a new
held_with_newest a old new x h room size is =
    let items : new.items ≡ old.items ++ x ∷ [] = ap (λ (k : Kept). k.items) is in
    record {
      limits = h.limits;
      capacity = ap (λ (k : Kept). k.capacity) is ∙ h.capacity;
      size = ap (λ (k : Kept). k.size) is ∙ h.size;
      well = record {
        shape = h.well.shape;
        sizes = (
          omega (arith, ap length items, length-append old.items (x ∷ [])),
          subst (All (HasSize a)) (sym items) (All-append (HasSize a) old.items (x ∷ []) h.well.sizes.1 (All-cons (HasSize a) x [] size (All-nil (HasSize a)))),
        );
      };
    }

-- ---- a turning
-- an exchange that fits a queue or a stack
pub record IsTurnedAt (a : MapAttr) (old : Kept) (back : Back) (front rear : Bool) (p q : Option (List ℕ)) : Type 0 where
  pub held : IsHeld a old
  pub fits : IsTrue (items_fit a old.items back)
  pub is : back ≡ Ends front rear p q

ends_fit : (a : MapAttr) (old : Kept) (back : Back) (front rear : Bool) (p q : Option (List ℕ)) → IsTurnedAt a old back front rear p q → FitsEnds a old.items front rear p q
ends_fit a old back front rear p q t =
    fits_ends_of a old.items front rear p q (ap (items_fit a old.items) (sym t.is) ∙ t.fits)

-- what is taken at each end, and what it leaves
pub record AreTaken (old mid left : Kept) (front rear : Bool) (oldest newest : Option (List ℕ)) : Type 0 where
  pub oldest_is : oldest ≡ (front_of front old.items).0
  pub mid_is : mid ≡ record { items = (front_of front old.items).1; capacity = old.capacity; size = old.size }
  pub newest_is : newest ≡ (rear_of rear mid.items).0
  pub left_is : left ≡ record { items = (rear_of rear mid.items).1; capacity = mid.capacity; size = mid.size }

-- what is put at each end then
pub record ArePut (left mid new : Kept) (p q : Option (List ℕ)) : Type 0 where
  pub mid_is : mid ≡ record { items = left.items ++ option_to_list q; capacity = left.capacity; size = left.size }
  pub new_is : new ≡ record { items = option_to_list p ++ mid.items; capacity = mid.capacity; size = mid.size }

room_for_both : (a : MapAttr) (old mid left : Kept) (back : Back) (front rear : Bool) (p q oldest newest : Option (List ℕ)) → IsTurnedAt a old back front rear p q → AreTaken old mid left front rear oldest newest
    → length left.items + one_if (is_some q) + one_if (is_some p) ≤ left.capacity
room_for_both a old mid left back front rear p q oldest newest t k =
    let f = ends_fit a old back front rear p q t in
    let there : one_if front + one_if rear ≤ length old.items = f.there in
    let room : length old.items + (one_if (is_some p) + one_if (is_some q)) ≤ a.max_entries + (one_if front + one_if rear) = f.room in
    let first : length (front_of front old.items).1 + one_if front ≡ length old.items = front_left front old.items (omega arith) in
    let mids : length mid.items ≡ length (front_of front old.items).1 = ap (λ (s : Kept). length s.items) k.mid_is in
    let last : length (rear_of rear mid.items).1 + one_if rear ≡ length mid.items = rear_left rear mid.items (omega arith) in
    let lefts : length left.items ≡ length (rear_of rear mid.items).1 = ap (λ (s : Kept). length s.items) k.left_is in
    let capacity : left.capacity ≡ a.max_entries = ap (λ (s : Kept). s.capacity) k.left_is ∙ ap (λ (s : Kept). s.capacity) k.mid_is ∙ t.held.capacity in
    omega arith

pub rear_room : (a : MapAttr) (old mid left : Kept) (back : Back) (front rear : Bool) (p q oldest newest put : Option (List ℕ)) → IsTurnedAt a old back front rear p q → AreTaken old mid left front rear oldest newest → put ≡ q
    → length left.items + one_if (is_some put) ≤ left.capacity
rear_room a old mid left back front rear p q oldest newest put t k same =
    let h = room_for_both a old mid left back front rear p q oldest newest t k in
    rw same (omega (arith, h))

pub front_room : (a : MapAttr) (old mid left next : Kept) (back : Back) (front rear : Bool) (p q oldest newest put at_rear : Option (List ℕ)) → IsTurnedAt a old back front rear p q → AreTaken old mid left front rear oldest newest → put ≡ p → at_rear ≡ q
    → next ≡ record { items = left.items ++ option_to_list at_rear; capacity = left.capacity; size = left.size }
    → length next.items + one_if (is_some put) ≤ next.capacity
front_room a old mid left next back front rear p q oldest newest put at_rear t k same rear_is is =
    let h = room_for_both a old mid left back front rear p q oldest newest t k in
    let items : length next.items ≡ length left.items + one_if (is_some q) =
    ap (λ (s : Kept). length s.items) is ∙ length-append left.items (option_to_list at_rear)
    ∙ ap (λ n. length left.items + n) (length-option at_rear ∙ ap (λ (o : Option (List ℕ)). one_if (is_some o)) rear_is) in
    let capacity : next.capacity ≡ left.capacity = ap (λ (s : Kept). s.capacity) is in
    rw same (omega (arith, h))

-- both at once
abbrev pub Turned : MapAttr → Kept → Back → Kept → Back → Type 0
Turned a old back new left =
    IsHeld a new
    × IsTurned (record { attr = a; contents = Items old.items; charge = charge_of a; roomy = true }) back (record { attr = a; contents = Items new.items; charge = charge_of a; roomy = true }) left

turned_by_exchange : (a : MapAttr) (old new : Kept) (back left : Back) → IsHeld a old → IsTrue (items_fit a old.items back) → exchanged (Items old.items) back ≡ (Items new.items, left) → new.capacity ≡ old.capacity → new.size ≡ old.size → Turned a old back new left
turned_by_exchange a old new back left h fits is capacity size =
    let t : IsTurnable a (Items new.items) left =
    subst (λ (r : Contents × Back). IsTurnable a r.0 r.1) is (stays a (Items old.items) back (record { well = h.well; fits = fits })) in (
      record { limits = h.limits; capacity = capacity ∙ h.capacity; size = size ∙ h.size; well = t.well },
      record { exchange = is; make = record { attr = refl; charge = refl; roomy = refl }; fits = t.fits },
    )

pub turned : (a : MapAttr) (old mid left next new : Kept) (back : Back) (front rear puts_front puts_rear : Bool) (p q oldest newest first last : Option (List ℕ))
    → IsTurnedAt a old back front rear p q → AreTaken old mid left front rear oldest newest → ArePut left next new p q
    → puts_front ≡ is_some p → puts_rear ≡ is_some q → first ≡ oldest → last ≡ newest
    → Turned a old back new (Ends puts_front puts_rear first last)
turned a old mid left next new back front rear puts_front puts_rear p q oldest newest first last t k u pf pr f l =
    let e1 : mid.items ≡ (front_of front old.items).1 = ap (λ (s : Kept). s.items) k.mid_is in
    let e2 : left.items ≡ (rear_of rear mid.items).1 = ap (λ (s : Kept). s.items) k.left_is in
    let e3 : next.items ≡ left.items ++ option_to_list q = ap (λ (s : Kept). s.items) u.mid_is in
    let e4 : new.items ≡ option_to_list p ++ next.items = ap (λ (s : Kept). s.items) u.new_is in
    let taken : left.items ≡ (rear_of rear (front_of front old.items).1).1 = e2 ∙ ap (λ l. (rear_of rear l).1) e1 in
    let last_is : last ≡ (rear_of rear (front_of front old.items).1).0 = l ∙ k.newest_is ∙ ap (λ l. (rear_of rear l).0) e1 in
    let all : new.items ≡ option_to_list p ++ ((rear_of rear (front_of front old.items).1).1 ++ option_to_list q) =
    e4 ∙ ap (λ l. option_to_list p ++ l) (e3 ∙ ap (λ l. l ++ option_to_list q) taken) in
    turned_by_exchange a old new back (Ends puts_front puts_rear first last) t.held t.fits
    (rw (t.is, all, pf, pr, last_is, f, k.oldest_is) refl)
    (ap (λ (s : Kept). s.capacity) u.new_is ∙ ap (λ (s : Kept). s.capacity) u.mid_is ∙ ap (λ (s : Kept). s.capacity) k.left_is ∙ ap (λ (s : Kept). s.capacity) k.mid_is)
    (ap (λ (s : Kept). s.size) u.new_is ∙ ap (λ (s : Kept). s.size) u.mid_is ∙ ap (λ (s : Kept). s.size) k.left_is ∙ ap (λ (s : Kept). s.size) k.mid_is)
