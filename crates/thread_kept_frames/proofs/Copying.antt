-- Copies of good frames are good.
use Rattle.std.proofs.Common.{◌≡◌, ℕ, zero, suc, ◌+◌, ◌≤◌, Bool, true, false, cond, List, [], ◌∷◌, length, take, drop, map, Option, Some, None, refl, sym, ◌∙◌, ap, arith}
use Rattle.std.specs.Prelude.{⊤, not, nat_lt, option_map}
use Rattle.std.specs.List.{position_or_len}
use Rattle.std.proofs.lemmas.List.{length-take, length-drop, length-map}
use Rattle.std.proofs.lemmas.Bool.{ltb-false, le-ltb}
use Rattle.thread_frames.specs.Faults.{is_long, frames_fault}
use Rattle.thread_frames.specs.declared.fault.FramesFault.{FramesFault}
use Rattle.thread_frames.specs.declared.fault.FramesFault.TheVariants.{TooMany, FrameTooLong}
use Rattle.thread_frames.specs.declared.frame.FrameIn.{FrameIn}
use Rattle.thread_frames.specs.declared.frame.TheConstants.{MOST_FRAMES, MOST_BYTES}
use Rattle.thread_kept_frames.specs.Portions.{content_of}

-- none of these is too long
abbrev NoneLong : List FrameIn → Type 0
NoneLong [] = ⊤
NoneLong (frame ∷ frames) = (is_long frame ≡ false) × NoneLong frames

-- ---- the first that is too long
first_behind : (frames : List FrameIn) → NoneLong frames → length frames ≤ position_or_len is_long frames
first_behind [] h = omega arith
first_behind (frame ∷ frames) h =
    let first : position_or_len is_long (frame ∷ frames) ≡ 1 + position_or_len is_long frames = ap (λ b. cond (not b) (1 + position_or_len is_long frames) 0) h.0 in
    let more = first_behind frames h.1 in
    omega (arith, first, more)

none_by : (frame : FrameIn) (frames : List FrameIn) (long : Bool) → is_long frame ≡ long → suc (length frames) ≤ cond (not long) (1 + position_or_len is_long frames) 0
    → (length frames ≤ position_or_len is_long frames → NoneLong frames) → NoneLong (frame ∷ frames)
none_by frame frames true is behind more = absurd (omega arith)
none_by frame frames false is behind more = (is, more (omega arith))

none_behind : (frames : List FrameIn) → length frames ≤ position_or_len is_long frames → NoneLong frames
none_behind [] h = tt
none_behind (frame ∷ frames) h = none_by frame frames (is_long frame) refl h (none_behind frames)

-- ---- what stands against frames
abbrev fault_by : Bool → Bool → ℕ → Option FramesFault
fault_by many long first = cond many (Some TooMany) (option_map (λ index. FrameTooLong (index + 1)) (cond long (Some first) None))

no_fault : (many long : Bool) (first : ℕ) → fault_by many long first ≡ None → (many ≡ false) × (long ≡ false)
no_fault true long first h = absurd (cc)
no_fault false true first h = absurd (cc)
no_fault false false first h = (refl, refl)

good_few : (frames : List FrameIn) → frames_fault frames ≡ None → (length frames ≤ MOST_FRAMES) × NoneLong frames
good_few frames good =
    let first = position_or_len is_long frames in
    let both = no_fault (nat_lt MOST_FRAMES (length frames)) (nat_lt first (length frames)) first good in
    (ltb-false MOST_FRAMES (length frames) both.0, none_behind frames (ltb-false first (length frames) both.1))

few_good : (frames : List FrameIn) → length frames ≤ MOST_FRAMES → NoneLong frames → frames_fault frames ≡ None
few_good frames few none =
    let first = position_or_len is_long frames in
    (λ i. fault_by (le-ltb MOST_FRAMES (length frames) few i) (le-ltb first (length frames) (first_behind frames none) i) first)

-- ---- some of them, and others like them
none_drop : (n : ℕ) (frames : List FrameIn) → NoneLong frames → NoneLong (drop n frames)
none_drop zero frames h = h
none_drop (suc n) [] h = tt
none_drop (suc n) (frame ∷ frames) h = none_drop n frames h.1

none_take : (n : ℕ) (frames : List FrameIn) → NoneLong frames → NoneLong (take n frames)
none_take zero frames h = tt
none_take (suc n) [] h = tt
none_take (suc n) (frame ∷ frames) h = (h.0, none_take n frames h.1)

none_like : (copies frames : List FrameIn) → map content_of copies ≡ map content_of frames → NoneLong frames → NoneLong copies
none_like [] frames same h = tt
none_like (copy ∷ copies) [] same h = absurd (cc)
none_like (copy ∷ copies) (frame ∷ frames) same h =
    let alike : content_of copy ≡ content_of frame = cc in
    let rest : map content_of copies ≡ map content_of frames = cc in
    (ap (λ (content : List ℕ × List ℕ). nat_lt MOST_BYTES (length content.1)) alike ∙ h.0, none_like copies frames rest h.1)

pub copies_good : (all copies : List FrameIn) (next count : ℕ) → frames_fault all ≡ None → map content_of copies ≡ map content_of (take count (drop next all)) → frames_fault copies ≡ None
copies_good all copies next count good same =
    let (few, none) = good_few all good in
    let counted : length copies ≡ length (take count (drop next all)) = sym (length-map copies content_of) ∙ ap length same ∙ length-map (take count (drop next all)) content_of in
    let taken = length-take count (drop next all) in
    let dropped = length-drop next all in
    few_good copies (omega (arith, few, counted, taken, dropped)) (none_like copies (take count (drop next all)) same (none_take count (drop next all) (none_drop next all none)))
