-- What a seat gains by its calls adds up.
use Rattle.std.proofs.Common.{◌≡◌, ℕ, ◌+◌, List, [], ◌∷◌, ◌++◌, length, refl, sym, ◌∙◌, ap, arith, append_assoc}
use Rattle.std.proofs.lemmas.List.{append-nil}
use Rattle.journal_model.specs.Book.{PlainBook}
use Rattle.journal_model.specs.Run.{PlainEvent}
use Rattle.bt_desk.specs.Answer.{Answer}
use Rattle.thread_lock.specs.declared.sequential.Sequential.{Ghosts}
use Rattle.thread_lock.specs.declared.seat.Seat.{Seat}
use Rattle.thread_lock.specs.History.{entry}
use Rattle.thread_lock.specs.Seats.{Called, seen, number, own_calls}
use Rattle.bt_desk.specs.Histories.{Call}
use Rattle.bt_workers.specs.Served.{Gains}

pub length_both : (xs ys : List Call) → length (xs ++ ys) ≡ length xs + length ys
length_both [] ys = omega arith
length_both (x ∷ xs) ys = omega (arith, length_both xs ys)

module _ {g : Ghosts PlainBook PlainEvent Answer} where
  pub gains_none : (seat : Seat PlainBook PlainEvent Answer g) → Gains seat [] seat
  gains_none seat = record { begins = ([], append-nil (seen seat)); gained = sym (append-nil (own_calls seat)); same_numbers = refl; fewer = omega arith }

  pub gains_one : (old : Seat PlainBook PlainEvent Answer g) (event : PlainEvent) (answer : Answer) (new : Seat PlainBook PlainEvent Answer g) → Called old event answer new → Gains old (entry (number old) event answer ∷ []) new
  gains_one old event answer new called = record {
    begins = (called.between ++ entry (number old) event answer ∷ [], sym (append_assoc (seen old) called.between (entry (number old) event answer ∷ [])) ∙ sym called.adds);
    gained = called.own_call;
    same_numbers = called.same_numbers;
    fewer = called.one_less;
  }

  pub gains_more : (a : Seat PlainBook PlainEvent Answer g) (xs : List Call) (b : Seat PlainBook PlainEvent Answer g) (ys : List Call) (c : Seat PlainBook PlainEvent Answer g) → Gains a xs b → Gains b ys c → Gains a (xs ++ ys) c
  gains_more a xs b ys c h k = record {
    begins = (h.begins.0 ++ k.begins.0, sym (append_assoc (seen a) h.begins.0 k.begins.0) ∙ (ap (λ log. log ++ k.begins.0) h.begins.1 ∙ k.begins.1));
    gained = k.gained ∙ (ap (λ log. log ++ ys) h.gained ∙ append_assoc (own_calls a) xs ys);
    same_numbers = k.same_numbers ∙ h.same_numbers;
    fewer = omega (arith, h.fewer, k.fewer, length_both xs ys);
  }
