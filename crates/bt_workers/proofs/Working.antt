-- Frames served one after another.
use Rattle.std.proofs.Common.{◌≡◌, ℕ, ◌+◌, ◌-◌, ◌<◌, List, [], ◌∷◌, ◌++◌, length, refl, sym, ◌∙◌, ap, subst, arith, append_assoc}
use Rattle.std.proofs.lemmas.List.{append-nil, map-append}
use Rattle.std.specs.Prelude.{Result, Ok, MatchResult}
use Rattle.std.specs.declared.alloc.AllocError.{AllocError}
use Rattle.std.specs.declared.alloc.Global.{Global}
use Rattle.std.specs.declared.vec.Vec.{Vec}
use Rattle.journal_model.specs.Book.{PlainBook}
use Rattle.journal_model.specs.Run.{PlainEvent}
use Rattle.bt_desk.specs.Answer.{Answer}
use Rattle.thread_lock.specs.declared.sequential.Sequential.{Ghosts}
use Rattle.thread_lock.specs.declared.seat.Seat.{Seat}
use Rattle.thread_lock.specs.Seats.{calls_left}
use Rattle.bt_desk.specs.declared.desk.Desk.{Desk}
use Rattle.bt_desk.specs.Histories.{Call}
use Rattle.thread_frames.specs.Deal.{IsFrameAt}
use Rattle.thread_frames.specs.Takes.{all_of, taken_of, parts_of}
use Rattle.thread_frames.specs.declared.frame.FrameIn.{FrameIn}
use Rattle.thread_frames.specs.declared.frame.Numbered.{Numbered}
use Rattle.thread_frames.specs.declared.frames.Frames.{Frames}
use Rattle.thread_frames.specs.declared.frames.Take.{Take}
use Rattle.bt_workers.specs.declared.result.FrameEnd.{FrameEnd}
use Rattle.bt_workers.specs.declared.result.FrameResult.{FrameResult}
use Rattle.bt_workers.specs.Worked.{EndBy, number_of, numbers_of, ServesFrames, Works}
use Rattle.bt_workers.specs.Two.{WorksAt}
use Rattle.bt_workers.proofs.Gaining.{gains_none, gains_more, length_both}
use Rattle.bt_workers.proofs.Serving.{ServesFrame}

abbrev pub ending : ℕ → FrameEnd → FrameResult
ending number end = record { number = number; end = end }

pub length_push : {A : Type 0} (xs : List A) (x : A) → length (xs ++ x ∷ []) ≡ length xs + 1
length_push [] x = refl
length_push (y ∷ xs) x = omega (arith, length_push xs x)

pub end_by_more : (all : List FrameIn) (left rest : ℕ) (xs ys : List FrameResult) (calls later : List Call) → rest ≡ left - length calls → EndBy all left xs calls → EndBy all rest ys later → EndBy all left (xs ++ ys) (calls ++ later)
end_by_more all left rest [] ys calls later same h k =
    subst (λ these. EndBy all left ys (these ++ later)) (sym h) (subst (λ n. EndBy all n ys later) (let e : rest ≡ left = omega (arith, same, ap length h) in e) k)
end_by_more all left rest (x ∷ xs) ys calls later same h k = (
  h.0,
  h.1 ++ later,
  ap (λ these. these ++ later) h.2 ∙ append_assoc h.0 h.1 later,
  h.3,
  end_by_more all (left - length h.0) rest xs ys h.1 later (omega (arith, same, ap length h.2, length_both h.0 h.1)) h.4 k,
)

module _ {g : Ghosts PlainBook PlainEvent Answer} where
  pub serves_none : (all : List FrameIn) (seat : Seat PlainBook PlainEvent Answer g) → ServesFrames all seat [] seat
  serves_none all seat = record { calls = []; gains = gains_none seat; frames = refl }

  pub serves_more : (all : List FrameIn) (a : Seat PlainBook PlainEvent Answer g) (xs : List FrameResult) (b : Seat PlainBook PlainEvent Answer g) (ys : List FrameResult) (c : Seat PlainBook PlainEvent Answer g) → ServesFrames all a xs b → ServesFrames all b ys c → ServesFrames all a (xs ++ ys) c
  serves_more all a xs b ys c h k = record {
    calls = h.calls ++ k.calls;
    gains = gains_more a h.calls b k.calls c h.gains k.gains;
    frames = end_by_more all (calls_left a) (calls_left b) xs ys h.calls k.calls (omega (arith, h.gains.fewer)) h.frames k.frames;
  }

  pub serves_one : (all : List FrameIn) (it : Numbered) (end : FrameEnd) (seat after : Seat PlainBook PlainEvent Answer g) → IsFrameAt all it → ServesFrame seat it.frame end after → ServesFrames all seat (ending it.number end ∷ []) after
  serves_one all it end seat after at served = record {
    calls = served.0;
    gains = served.1;
    frames = (served.0, [], sym (append-nil served.0), record { frame = it.frame; at = at.1; by = served.2 }, refl);
  }

  pub works_none : (seat : Seat PlainBook PlainEvent Answer g) (take : Take) → Works seat take [] seat take
  works_none seat take = record { serves = serves_none (all_of take) seat; taken = sym (append-nil (taken_of take)); same_all = refl; same_parts = refl }

  pub works_more : (seat : Seat PlainBook PlainEvent Answer g) (take : Take) (ends : List FrameResult) (b : Seat PlainBook PlainEvent Answer g) (took : Take) (it : Numbered) (end : FrameEnd) (c : Seat PlainBook PlainEvent Answer g) (then : Take)
      → Works seat take ends b took → IsFrameAt (all_of took) it → taken_of then ≡ taken_of took ++ it.number ∷ [] → all_of then ≡ all_of took → parts_of then ≡ parts_of took → ServesFrame b it.frame end c
      → Works seat take (ends ++ ending it.number end ∷ []) c then
  works_more seat take ends b took it end c then h at taken all parts served = record {
    serves = serves_more (all_of take) seat ends b (ending it.number end ∷ []) c h.serves (serves_one (all_of take) it end b c (subst (λ fs. IsFrameAt fs it) h.same_all at) served);
    taken = taken ∙ (ap (λ ns. ns ++ it.number ∷ []) h.taken ∙ (append_assoc (taken_of take) (numbers_of ends) (it.number ∷ []) ∙ ap (λ ns. taken_of take ++ ns) (sym (map-append number_of ends (ending it.number end ∷ [])))));
    same_all = all ∙ h.same_all;
    same_parts = parts ∙ h.same_parts;
  }

  pub works_ok : {K : Type 0} (desk : Desk K) (frames : Frames) (seat : Seat PlainBook PlainEvent Answer g) (take : Take) (after : Seat PlainBook PlainEvent Answer g) (took : Take) (told : Result (Vec FrameResult Global) AllocError) (ends : Vec FrameResult Global)
      → WorksAt desk frames seat take after took told → told ≡ Ok ends → Works seat take ends.items after took
  works_ok desk frames seat take after took told ends h is =
      subst (λ it. MatchResult it (λ (some : Vec FrameResult Global). Works seat take some.items after took) (λ _. (after ≡ seat) × (took ≡ take))) is h.works
