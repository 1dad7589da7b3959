-- What a gate is told adds up.
use Rattle.std.proofs.Common.{◌≡◌, ℕ, zero, suc, ◌+◌, ◌-◌, List, [], ◌∷◌, ◌++◌, length, refl, sym, ◌∙◌, ap, subst, arith, add-zero, zero-add, append_assoc}
use Rattle.std.proofs.lemmas.List.{append-nil}
use Rattle.journal_model.specs.Book.{PlainBook}
use Rattle.journal_model.specs.Run.{PlainEvent}
use Rattle.bt_desk.specs.Answer.{Answer}
use Rattle.thread_lock.specs.declared.sequential.Sequential.{Ghosts}
use Rattle.thread_lock.specs.declared.seat.Seat.{Seat}
use Rattle.thread_lock.specs.Seats.{calls_left}
use Rattle.bt_desk.specs.Histories.{Call}
use Rattle.thread_frames.specs.Deal.{IsFrameAt}
use Rattle.thread_frames.specs.declared.frame.FrameIn.{FrameIn}
use Rattle.thread_frames.specs.declared.frame.Numbered.{Numbered}
use Rattle.bt_workers.specs.declared.result.FrameEnd.{FrameEnd}
use Rattle.bt_workers.specs.declared.result.FrameResult.{FrameResult}
use Rattle.bt_workers.specs.Served.{Gains, FrameBy}
use Rattle.bt_workers.specs.Gates.{Notice, Pass, Answered, passes, unmade, AreTold}
use Rattle.bt_workers.specs.Worked.{ToldBy, Tells}
use Rattle.bt_workers.proofs.Gaining.{gains_none, gains_more, length_both}
use Rattle.bt_workers.proofs.Working.{ending}

passes-append : (frame first n more : ℕ) → passes frame first n ++ passes frame (first + n) more ≡ passes frame first (n + more)
passes-append frame first zero more = ap (λ nth. passes frame nth more) (add-zero first) ∙ ap (passes frame first) (sym (zero-add more))
passes-append frame first (suc n) more =
    let nth : first + suc n ≡ (first + 1) + n = omega arith in
    let count : suc (n + more) ≡ suc n + more = omega arith in
    ap (λ (notices : List Notice). Pass frame first ∷ notices) (ap (λ m. passes frame (first + 1) n ++ passes frame m more) nth ∙ passes-append frame (first + 1) n more) ∙ ap (passes frame first) count

module _ {G : Type 0} (told : G → Notice → G → Type 0) where
  pub told_one : (a : G) (notice : Notice) (b : G) → told a notice b → AreTold told a (notice ∷ []) b
  told_one a notice b h = (b, h, refl)

  -- a frame that has come to no call yet
  pub told_none : (frame first : ℕ) (gate : G) (n : ℕ) → AreTold told gate (passes frame first (n - n)) gate
  told_none frame first gate n = subst (λ m. AreTold told gate (passes frame first m) gate) (let e : 0 ≡ n - n = omega arith in e) refl

  told_then : (a : G) (xs : List Notice) (b : G) (ys : List Notice) (c : G) → AreTold told a xs b → AreTold told b ys c → AreTold told a (xs ++ ys) c
  told_then a [] b ys c h k = subst (λ gate. AreTold told gate ys c) h k
  told_then a (x ∷ xs) b ys c h k = (h.0, h.1, told_then h.0 xs b ys c h.2 k)

  -- a frame came to n calls, and then to some more
  pub told_on : (frame first n nth more all : ℕ) (a b c : G) → nth ≡ first + n → all ≡ n + more → AreTold told a (passes frame first n) b → AreTold told b (passes frame nth more) c → AreTold told a (passes frame first all) c
  told_on frame first n nth more all a b c next sum h k =
      subst (λ notices. AreTold told a notices c) (ap (λ m. passes frame first n ++ passes frame m more) next ∙ (passes-append frame first n more ∙ ap (passes frame first) (sym sum)))
      (told_then a (passes frame first n) b (passes frame nth more) c h k)

  told_by_more : (all : List FrameIn) (left rest : ℕ) (a : G) (xs ys : List FrameResult) (calls later : List Call) (b c : G) → rest ≡ left - length calls
      → ToldBy told all left a xs calls b → ToldBy told all rest b ys later c → ToldBy told all left a (xs ++ ys) (calls ++ later) c
  told_by_more all left rest a [] ys calls later b c same h k =
      subst (λ these. ToldBy told all left a ys (these ++ later) c) (sym h.0)
      (subst (λ n. ToldBy told all n a ys later c) (let e : rest ≡ left = omega (arith, same, ap length h.0) in e)
      (subst (λ gate. ToldBy told all rest gate ys later c) h.1 k))
  told_by_more all left rest a (x ∷ xs) ys calls later b c same h k = (
    h.0,
    h.1 ++ later,
    h.2,
    ap (λ these. these ++ later) h.3 ∙ append_assoc h.0 h.1 later,
    h.4,
    h.5,
    told_by_more all (left - length h.0) rest h.2 xs ys h.1 later b c (omega (arith, same, ap length h.3, length_both h.0 h.1)) h.6 k,
  )

  module _ {g : Ghosts PlainBook PlainEvent Answer} where
    pub tells_none : (all : List FrameIn) (seat : Seat PlainBook PlainEvent Answer g) (gate : G) → Tells told all seat gate [] seat gate
    tells_none all seat gate = record { calls = []; gains = gains_none seat; frames = (refl, refl) }

    -- a frame was served, and the gate was told of it
    abbrev pub TellsFrame : Seat PlainBook PlainEvent Answer g → G → Numbered → FrameEnd → Seat PlainBook PlainEvent Answer g → G → Type 0
    TellsFrame seat gate it end after then =
        (calls : List Call) × Gains seat calls after × FrameBy (calls_left seat) it.frame calls end × AreTold told gate (passes it.number 1 (length calls + unmade end)) then

    pub tells_more : (all : List FrameIn) (seat : Seat PlainBook PlainEvent Answer g) (gate : G) (ends : List FrameResult) (b : Seat PlainBook PlainEvent Answer g) (at : G) (it : Numbered) (end : FrameEnd) (c : Seat PlainBook PlainEvent Answer g) (then last : G)
        → Tells told all seat gate ends b at → IsFrameAt all it → TellsFrame b at it end c then → told then (Answered it.number) last → Tells told all seat gate (ends ++ ending it.number end ∷ []) c last
    tells_more all seat gate ends b at it end c then last h stands served answered = record {
      calls = h.calls ++ served.0;
      gains = gains_more seat h.calls b served.0 c h.gains served.1;
      frames = told_by_more all (calls_left seat) (calls_left b) gate ends (ending it.number end ∷ []) h.calls served.0 at last (omega (arith, h.gains.fewer)) h.frames (
        served.0,
        [],
        last,
        sym (append-nil served.0),
        record { frame = it.frame; at = stands.1; by = served.2 },
        told_then at (passes it.number 1 (length served.0 + unmade end)) then (Answered it.number ∷ []) last served.3 (told_one then (Answered it.number) last answered),
        (refl, refl),
      );
    }
