-- What two seats did stands in the history that leads to the closed book.
use Rattle.std.proofs.Common.{◌≡◌, ◌≢◌, ℕ, ◌==◌, ◌+◌, ◌≤◌, ◌||◌, Bool, true, false, List, [], ◌∷◌, ◌++◌, length, refl, sym, ◌∙◌, ap, subst, arith}
use Rattle.std.specs.List.{range_with_len}
use Rattle.std.proofs.lemmas.Bool.Decides.{nat_tests}
use Rattle.journal_model.specs.Book.{PlainBook}
use Rattle.journal_model.specs.Run.{PlainEvent}
use Rattle.bt_without.specs.declared.events.Answer.{Answer}
use Rattle.thread_lock.specs.declared.sequential.Sequential.{Ghosts}
use Rattle.thread_lock.specs.declared.seat.Seat.{Seat}
use Rattle.thread_lock.specs.History.{AreApart, has, own}
use Rattle.thread_lock.specs.Seats.{Heard, seen, numbers, own_calls, calls_left}
use Rattle.thread_lock.proofs.Histories.{own_same, own_each, own_all, own-append, length-own-append}
use Rattle.bt_desk.specs.Histories.{Call, Runs}
use Rattle.bt_desk.specs.declared.desk.Desk.{Desk}
use Rattle.bt_desk.specs.Seats.{ClosesAs, opened, total_calls}
use Rattle.thread_frames.specs.declared.frame.FrameIn.{FrameIn}
use Rattle.bt_workers.specs.declared.result.FrameResult.{FrameResult}
use Rattle.bt_workers.specs.Served.{Gains}
use Rattle.bt_workers.specs.Worked.{ServesFrames, EndBy, numbers_of}
use Rattle.bt_workers.specs.Two.{WorkBoth}
use Rattle.thread_host_run.specs.HostRuns.{AreServed, half}

-- what follows two lists that are alike follows
same_end : (xs ys zs : List Call) → xs ++ ys ≡ xs ++ zs → ys ≡ zs
same_end [] ys zs e = e
same_end (x ∷ xs) ys zs e = same_end xs ys zs (let both : x ∷ (xs ++ ys) ≡ x ∷ (xs ++ zs) = e in cc)

append_none : (xs : List Call) → xs ++ [] ≡ xs
append_none [] = refl
append_none (x ∷ xs) = ap (λ ys. x ∷ ys) (append_none xs)

not_true : (b : Bool) → (b ≡ true → ⊥) → b ≡ false
not_true true f = absurd (f refl)
not_true false f = refl

or_left : (a b : Bool) → a ≡ true → a || b ≡ true
or_left a b e = cc

has_self : (m : ℕ) → has (m ∷ []) m ≡ true
has_self m = or_left (m == m) (has [] m) (grind (arith, nat_tests))

has_one : (n m : ℕ) → has (m ∷ []) n ≡ true → m ≡ n
has_one n m h = grind (arith, nat_tests)

-- a number that is not among others is none of them
other_number : (m n : ℕ) → has (m ∷ []) n ≡ false → m ≢ n
other_number m n new e = let z : true ≡ false = sym (has_self m) ∙ (ap (has (m ∷ [])) e ∙ new) in cc

-- and two that differ have nothing in common
apart_numbers : (m n : ℕ) → m ≢ n → AreApart (m ∷ []) (n ∷ [])
apart_numbers m n differ k mine = not_true (has (n ∷ []) k) (λ other. differ (has_one k m mine ∙ sym (has_one k n other)))

module _ {g : Ghosts PlainBook PlainEvent Answer} where
  -- a seat that had no call of its own has those that it gained
  gained_alone : (calls : List Call) (old new : Seat PlainBook PlainEvent Answer g) → seen old ≡ [] → Gains old calls new → own_calls new ≡ calls
  gained_alone calls old new nothing gains = gains.gained ∙ ap (λ (log : List Call). own (numbers old) log ++ calls) nothing

  -- a history that begins with what a seat has seen, and has no further call of it, has none of either of its two parts
  no_more : (joined : Seat PlainBook PlainEvent Answer g) (history more : List Call) → seen joined ++ more ≡ history → own (numbers joined) history ≡ own_calls joined → own (numbers joined) more ≡ []
  no_more joined history more is same =
      same_end (own_calls joined) (own (numbers joined) more) []
      (sym (own-append (numbers joined) (seen joined) more) ∙ (ap (own (numbers joined)) is ∙ (same ∙ sym (append_none (own_calls joined)))))

  module _ {K : Type 0} (desk : Desk K) (all : List FrameIn) (ends : List FrameResult) (closed : PlainBook) (one two joined : Seat PlainBook PlainEvent Answer g)
      (heard : Heard one two joined) (numbered : numbers joined ≡ numbers one ++ numbers two) (closes : ClosesAs desk joined closed) where
    none_of_both : (own (numbers one) closes.begins.0 ≡ []) × (own (numbers two) closes.begins.0 ≡ [])
    none_of_both =
        own_each (numbers one) (numbers two) closes.begins.0
        (ap (λ ns. own ns closes.begins.0) (sym numbered) ∙ no_more joined closes.history closes.begins.0 closes.begins.1 closes.same_calls)

    calls_of_one : own (numbers one) closes.history ≡ own_calls one
    calls_of_one = own_same (numbers one) (seen joined) closes.begins.0 closes.history closes.begins.1 none_of_both.0 ∙ heard.same_calls

    calls_of_two : own (numbers two) closes.history ≡ own_calls two
    calls_of_two = own_same (numbers two) (seen joined) closes.begins.0 closes.history closes.begins.1 none_of_both.1 ∙ heard.other_calls

    -- the calls of a seat that began with none are those of its frames
    end_by : (n : ℕ) (old new : Seat PlainBook PlainEvent Answer g) (served : List FrameResult) → seen old ≡ [] → numbers old ≡ n ∷ [] → calls_left old ≡ half → ServesFrames all old served new
        → own (numbers new) closes.history ≡ own_calls new → EndBy all half served (own (n ∷ []) closes.history)
    end_by n old new served nothing number left serves same =
        let calls : own (n ∷ []) closes.history ≡ serves.calls =
        ap (λ ns. own ns closes.history) (sym (serves.gains.same_numbers ∙ number)) ∙ (same ∙ gained_alone serves.calls old new nothing serves.gains) in
        subst (λ it. EndBy all half served it) (sym calls) (subst (λ it. EndBy all it served serves.calls) left serves.frames)

    -- two seats that began with all calls of the desk and have gained all that they have not left have made all calls of the history
    made_by_both : (m n : ℕ) (first second : Seat PlainBook PlainEvent Answer g) (ones twos : List FrameResult) → m ≢ n
        → seen first ≡ [] → numbers first ≡ m ∷ [] → seen second ≡ [] → numbers second ≡ n ∷ []
        → calls_left joined ≡ calls_left one + calls_left two → total_calls desk ≡ calls_left first + calls_left second
        → ServesFrames all first ones one → ServesFrames all second twos two → own (m ∷ n ∷ []) closes.history ≡ closes.history
    made_by_both m n first second ones twos differ nothing number nothing_too number_too left total served served_too =
        let mine : own (m ∷ []) closes.history ≡ served.calls =
        ap (λ ns. own ns closes.history) (sym (served.gains.same_numbers ∙ number)) ∙ (calls_of_one ∙ gained_alone served.calls first one nothing served.gains) in
        let theirs : own (n ∷ []) closes.history ≡ served_too.calls =
        ap (λ ns. own ns closes.history) (sym (served_too.gains.same_numbers ∙ number_too)) ∙ (calls_of_two ∙ gained_alone served_too.calls second two nothing_too served_too.gains) in
        let both : length (own (m ∷ n ∷ []) closes.history) ≡ length (own (m ∷ []) closes.history) + length (own (n ∷ []) closes.history) =
        length-own-append (m ∷ []) (n ∷ []) closes.history (apart_numbers m n differ) in
        own_all (m ∷ n ∷ []) closes.history (omega (arith, both, ap length mine, ap length theirs, served.gains.fewer, served_too.gains.fewer, left, total, closes.room))

    pub are_served : (from : PlainBook) (m n : ℕ) (first second : Seat PlainBook PlainEvent Answer g) → opened desk ≡ from
        → seen first ≡ [] → numbers first ≡ m ∷ [] → calls_left first ≡ half
        → seen second ≡ [] → numbers second ≡ n ∷ [] → calls_left second ≡ half
        → has (m ∷ []) n ≡ false → calls_left joined ≡ calls_left one + calls_left two → total_calls desk ≡ calls_left first + calls_left second
        → WorkBoth all first second one two ends → numbers_of ends ≡ range_with_len 1 (length all) → AreServed from all ends closed
    are_served from m n first second is nothing number left nothing_too number_too left_too new left_of_both total works each = record {
      history = closes.history;
      runs = subst (λ it. Runs it closes.history closed) is closes.runs;
      first = m;
      second = n;
      differ = other_number m n new;
      by_both = made_by_both m n first second works.ones works.twos (other_number m n new) nothing number nothing_too number_too left_of_both total works.by_first works.by_second;
      ones = works.ones;
      twos = works.twos;
      by_first = end_by m first one works.ones nothing number left works.by_first calls_of_one;
      by_second = end_by n second two works.twos nothing_too number_too left_too works.by_second calls_of_two;
      order = works.order;
      each = each;
    }
