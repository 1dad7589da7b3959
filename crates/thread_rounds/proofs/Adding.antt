-- What a seat gains by frames that are served one after another.
use Rattle.std.proofs.Common.{◌≡◌, ℕ, ◌-◌, List, [], ◌∷◌, ◌++◌, length, refl, sym, ◌∙◌, ap, subst, arith, append_assoc}
use Rattle.std.proofs.lemmas.List.{append-nil, length-append}
use Rattle.journal_model.specs.Book.{PlainBook}
use Rattle.journal_model.specs.Run.{PlainEvent}
use Rattle.bt_without.specs.declared.events.Answer.{Answer}
use Rattle.thread_lock.specs.declared.sequential.Sequential.{Ghosts}
use Rattle.thread_lock.specs.declared.seat.Seat.{Seat}
use Rattle.thread_lock.specs.Seats.{seen, own_calls, calls_left}
use Rattle.bt_desk.specs.Histories.{Call}
use Rattle.thread_frames.specs.declared.frame.FrameIn.{FrameIn}
use Rattle.bt_workers.specs.declared.result.FrameResult.{FrameResult}
use Rattle.bt_workers.specs.Served.{Gains}
use Rattle.bt_workers.specs.Worked.{EndBy, ServesFrames}

end_by_more : (all : List FrameIn) (left rest : ℕ) (xs ys : List FrameResult) (calls later : List Call) → rest ≡ left - length calls → EndBy all left xs calls → EndBy all rest ys later → EndBy all left (xs ++ ys) (calls ++ later)
end_by_more all left rest [] ys calls later same h k =
    subst (λ these. EndBy all left ys (these ++ later)) (sym h) (subst (λ n. EndBy all n ys later) (let e : rest ≡ left = omega (arith, same, ap length h) in e) k)
end_by_more all left rest (x ∷ xs) ys calls later same h k = (
  h.0,
  h.1 ++ later,
  ap (λ these. these ++ later) h.2 ∙ append_assoc h.0 h.1 later,
  h.3,
  end_by_more all (left - length h.0) rest xs ys h.1 later (omega (arith, same, ap length h.2, length-append h.0 h.1)) h.4 k,
)

module _ {g : Ghosts PlainBook PlainEvent Answer} where
  gains_more : (a : Seat PlainBook PlainEvent Answer g) (xs : List Call) (b : Seat PlainBook PlainEvent Answer g) (ys : List Call) (c : Seat PlainBook PlainEvent Answer g) → Gains a xs b → Gains b ys c → Gains a (xs ++ ys) c
  gains_more a xs b ys c h k = record {
    begins = (h.begins.0 ++ k.begins.0, sym (append_assoc (seen a) h.begins.0 k.begins.0) ∙ (ap (λ log. log ++ k.begins.0) h.begins.1 ∙ k.begins.1));
    gained = k.gained ∙ (ap (λ log. log ++ ys) h.gained ∙ append_assoc (own_calls a) xs ys);
    same_numbers = k.same_numbers ∙ h.same_numbers;
    fewer = omega (arith, h.fewer, k.fewer, length-append xs ys);
  }

  pub serves_none : (all : List FrameIn) (seat : Seat PlainBook PlainEvent Answer g) → ServesFrames all seat [] seat
  serves_none all seat = record {
    calls = [];
    gains = record { begins = ([], append-nil (seen seat)); gained = sym (append-nil (own_calls seat)); same_numbers = refl; fewer = omega arith };
    frames = refl;
  }

  pub serves_more : (all : List FrameIn) (a : Seat PlainBook PlainEvent Answer g) (xs : List FrameResult) (b : Seat PlainBook PlainEvent Answer g) (ys : List FrameResult) (c : Seat PlainBook PlainEvent Answer g) → ServesFrames all a xs b → ServesFrames all b ys c → ServesFrames all a (xs ++ ys) c
  serves_more all a xs b ys c h k = record {
    calls = h.calls ++ k.calls;
    gains = gains_more a h.calls b k.calls c h.gains k.gains;
    frames = end_by_more all (calls_left a) (calls_left b) xs ys h.calls k.calls (omega (arith, h.gains.fewer)) h.frames k.frames;
  }
