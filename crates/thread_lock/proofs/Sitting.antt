-- What the view of a seat of the turns shows, and that each call keeps it.
use Rattle.std.proofs.Common.{◌≡◌, ℕ, ◌<◌, List, [], ◌∷◌, ◌++◌, length, Some, nat_eq, refl, ap, sym, ◌∙◌, subst, arith}
use Rattle.std.specs.List.{IsDistinct}
use Rattle.thread_lock.specs.declared.rule.Opening.{Opening}
use Rattle.thread_lock.specs.declared.rule.View.{View}
use Rattle.thread_lock.specs.declared.turns.Turns.{Turns}
use Rattle.thread_lock.specs.declared.seat.Seat.{Seat}
use Rattle.thread_lock.specs.declared.sequential.Sequential.{Ghosts}
use Rattle.thread_lock.specs.declared.entry.Entry.{Entry}
use Rattle.thread_lock.specs.History.{IsLegal}
use Rattle.thread_lock.specs.Rule.{Knows}
use Rattle.thread_lock.specs.Plays.{first_view, other_half, first_half, numbered_view, joint_view, GetsNumber, Steps, TakesIn}
use Rattle.thread_lock.specs.Seats.{opening, IsSeatOf}
use Rattle.thread_lock.proofs.Numbers.{one_distinct}

module _ {S E A : Type 0} (steps : S → E → A → S → Type 0) (s : S) where
  pub record Sits (v : View S E A) : Type 0 where
    pub opened : v.opening ≡ Some s
    pub legal : IsLegal steps s v.seen
    pub some_number : 0 < length v.numbers
    pub distinct : IsDistinct nat_eq v.numbers

  pub sits_along : (v w : View S E A) → w ≡ v → Sits v → Sits w
  sits_along v w is h = subst Sits (sym is) h

  pub sits_halved : (v : View S E A) → Sits v → Sits (first_half v)
  sits_halved v h = record { opened = h.opened; legal = h.legal; some_number = h.some_number; distinct = h.distinct }

  -- the new seat of a split
  pub sits_new : (v : View S E A) (m m' : Knows S E A) → m ≡ (other_half v, []) → GetsNumber m m' → Sits v → Sits m'.0
  sits_new v m m' is new h =
      sits_along (numbered_view (other_half v) new.0) m'.0 (ap (λ (x : Knows S E A). x.0) new.1 ∙ ap (λ (x : Knows S E A). numbered_view x.0 new.0) is)
      record { opened = h.opened; legal = h.legal; some_number = omega arith; distinct = one_distinct new.0 }

  pub sits_merged : (v w : View S E A) → Sits v → IsDistinct nat_eq (v.numbers ++ w.numbers) → Sits (joint_view v w)
  sits_merged v w h distinct = record { opened = h.opened; legal = h.legal; some_number = longer_row v.numbers w.numbers h.some_number; distinct = distinct }
    where
      longer_row : (ns ms : List ℕ) → 0 < length ns → 0 < length (ns ++ ms)
      longer_row [] ms h = absurd (omega arith)
      longer_row (n ∷ ns) ms h = omega arith

  pub sits_after : (v w : View S E A) (e : E) (a : A) → Sits v → Steps steps v e a w → Sits w
  sits_after v w e a h t = record {
    opened = t.opening ∙ h.opened;
    legal = t.legal s h.opened;
    some_number = subst (λ (l : List ℕ). 0 < length l) (sym t.numbers) h.some_number;
    distinct = subst (IsDistinct nat_eq) (sym t.numbers) h.distinct;
  }

  pub sits_told : (v w : View S E A) (told : List (Entry E A)) → Sits v → TakesIn steps v told w → Sits w
  sits_told v w told h t = subst Sits (sym t.is) record { opened = h.opened; legal = t.legal s h.opened; some_number = h.some_number; distinct = h.distinct }

-- the first seat
pub sits_first : {S E A : Type 0} (steps : S → E → A → S → Type 0) (k l : Opening S) (m : Knows S E A) → l ≡ k → m ≡ (first_view k, []) → Sits steps l.state.value m.0
sits_first {S} {E} {A} steps k l m key is =
    subst (λ (x : Opening S). Sits steps x.state.value m.0) (sym key)
    (sits_along steps k.state.value (first_view k) m.0 (ap (λ (x : Knows S E A). x.0) is) record { opened = refl; legal = (k.state.value, refl); some_number = omega arith; distinct = one_distinct 0 })

module _ {S E A : Type 0} {b : Ghosts S E A} (t : Turns S E A) (seat : Seat S E A b) where
  pub sits : IsSeatOf t seat → Sits b.steps (opening t) seat.place.me.0
  sits h = record { opened = h.opened; legal = h.legal; some_number = h.numbered; distinct = h.distinct }

  pub seat_of : seat.place.table_id ≡ t.table.shared.table_id → Sits b.steps (opening t) seat.place.me.0 → IsSeatOf t seat
  seat_of table h = record { table = table; opened = h.opened; legal = h.legal; numbered = h.some_number; distinct = h.distinct }
