-- How frames are dealt to takes: each is taken once.
use Rattle.std.specs.Prelude.{◌≡◌, ◌==◌, ℕ, ◌+◌, ◌-◌, ◌<◌, ◌≤◌, nat_le, nat_lt, ◌&&◌, if◌then◌else◌, List, [], ◌∷◌, ◌++◌, length, map, Some, slice_get, All}
use Rattle.std.specs.List.{sum_by}
use mathlib.Core.Option.{some}
use lib.ListN.{get_elem?}
use Rattle.thread_frames.specs.declared.deal.Hand.{Hand}
use Rattle.thread_frames.specs.declared.deal.TheConstants.{MOST_PARTS}
use Rattle.thread_frames.specs.declared.frame.FrameIn.{FrameIn}
use Rattle.thread_frames.specs.declared.frame.Numbered.{Numbered}

abbrev pub hand : ℕ → List FrameIn → List ℕ → Hand
hand parts all taken = record { parts = parts; all = all; taken = taken }

-- how often k stands among the numbers
abbrev pub times : ℕ → List ℕ → ℕ
times k numbers = sum_by (λ n. if n == k then 1 else 0) numbers

-- 1 of a number from 1 to n, and else 0
abbrev pub once : ℕ → ℕ → ℕ
once k n = if nat_lt 0 k && nat_le k n then 1 else 0

-- the numbers are those from 1 to n, in some order
abbrev pub TakesEach : List ℕ → ℕ → Type 0
TakesEach numbers n = (k : ℕ) → times k numbers ≡ once k n

abbrev pub numbers_of : List Numbered → List ℕ
numbers_of items = map (λ (it : Numbered). it.number) items

-- it is the frame of its number, from 1
abbrev pub IsFrameAt : List FrameIn → Numbered → Type 0
IsFrameAt all it = (0 < it.number) × (slice_get all (it.number - 1) ≡ Some it.frame)

-- a take that puts frames in knows the new one as the last of all
abbrev pub after_put : Hand → Numbered → Hand
after_put v it = hand v.parts (v.all ++ it.frame ∷ []) v.taken

abbrev pub after_take : Hand → Numbered → Hand
after_take v it = hand v.parts v.all (v.taken ++ it.number ∷ [])

-- a take has then taken one more of all frames
pub record Took (v : Hand) (it : Numbered) (w : Hand) : Type 0 where
  pub after : w ≡ after_take v it
  pub is_frame : IsFrameAt v.all it
  pub few : length w.taken ≤ length v.all

-- a take with all parts knows that the others, which were joined into it, left these
abbrev pub IsRest : Hand → List Numbered → Type 0
IsRest v items = v.parts ≡ MOST_PARTS → (k : ℕ) → once k (length v.all) ≡ times k v.taken + times k (numbers_of items)

-- a take that has a part knows all frames
abbrev pub KnowsAll : List FrameIn → ℕ → Hand → Type 0
KnowsAll all port v = 0 < v.parts → v.all ≡ all

-- a take without a part has taken nothing
abbrev pub IsIdle : ℕ → Hand → Type 0
IsIdle port v = v.parts ≡ 0 → v.taken ≡ []

-- it holds of each take
abbrev pub OfEach : (ℕ → Hand → Type 0) → List Hand → Type 0
OfEach F views = (port : ℕ) (v : Hand) → get_elem? views port ≡ some v → F port v

-- each frame was taken by one take, once, or is still in the queue
pub record IsDealt (items : List Numbered) (views : List Hand) : Type 0 where
  pub all : List FrameIn
  pub whole : sum_by (λ (v : Hand). v.parts) views ≡ MOST_PARTS
  pub know : OfEach (KnowsAll all) views
  pub idle : OfEach IsIdle views
  pub frames : All (IsFrameAt all) items
  pub each_once : (k : ℕ) → once k (length all) ≡ sum_by (λ (v : Hand). times k v.taken) views + times k (numbers_of items)
  pub counted : length all ≡ sum_by (λ (v : Hand). length v.taken) views + length items
