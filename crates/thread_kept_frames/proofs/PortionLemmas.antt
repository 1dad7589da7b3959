-- A portion of frames: what a crash leaves, and why it was not served.
use Rattle.std.proofs.Common.{◌≡◌, ◌⊎◌, inl, inr, ℕ, ◌+◌, ◌-◌, List, length, take, drop, map, Option, None, true, refl, ap, sym, ◌∙◌, subst, arith}
use Rattle.std.specs.Prelude.{is_some}
use Rattle.sqlite.specs.State.{State}
use Rattle.journal_model.specs.Book.{PlainBook}
use Rattle.thread_frames.specs.Faults.{frames_fault}
use Rattle.thread_frames.specs.declared.frame.FrameIn.{FrameIn}
use Rattle.kept_ledger.specs.TermsView.{PlainTerms}
use Rattle.thread_kept_frames.specs.Serving.{BeforeOrServed, StopsPortion}
use Rattle.thread_kept_frames.specs.declared.fault.ServeFault.{ServeFault}
use Rattle.thread_kept_frames.specs.declared.fault.ServeFault.TheVariants.{BadFrames}
use Rattle.thread_kept_frames.specs.declared.live.course.Course.{Course}
use Rattle.thread_kept_frames.specs.Courses.{AreDue, further}
use Rattle.thread_kept_frames.specs.Portions.{content_of, flowing, BeforeOrBehind}

-- what was copied are the next frames
pub copies_next : (all given frames : List FrameIn) (next count : ℕ) → given ≡ all → map content_of frames ≡ map content_of (take (next + count - next) (drop next given)) → map content_of frames ≡ map content_of (take count (drop next all))
copies_next all given frames next count is copied =
    let left : next + count - next ≡ count = omega arith in
    subst (λ (n : ℕ). map content_of frames ≡ map content_of (take n (drop next all))) left
    (subst (λ (xs : List FrameIn). map content_of frames ≡ map content_of (take (next + count - next) (drop next xs))) is copied)

-- of copies of the next frames
pub before_or_behind : (all frames : List FrameIn) (passes : Option ℕ) (b : PlainBook) (at : Course) (count : ℕ) → AreDue (length all) passes at count → map content_of frames ≡ map content_of (take count (drop at.next all))
    → (left : PlainBook) → BeforeOrServed frames b left → BeforeOrBehind all passes (flowing b at) left
before_or_behind all frames passes b at count due copies left (inl same) = inl same
before_or_behind all frames passes b at count due copies left (inr it) =
    inr (further (length all) at count it.0, record { count = count; due = due; frames = frames; copies = copies; ends = it.0; served = it.1; comes = refl })

-- good frames are served
pub not_bad : (frames : List FrameIn) (b : PlainBook) (Began : PlainTerms → Type 0) (new : State) (fault : ServeFault) → frames_fault frames ≡ None → StopsPortion frames b Began new fault → fault ≡ BadFrames → ⊥
not_bad frames b Began new fault good stops is =
    let bad : is_some (frames_fault frames) ≡ true = (subst (StopsPortion frames b Began new) is stops).why in
    cc (sym (ap is_some good) ∙ bad)
