-- Lines that spell no frames.
use Rattle.std.proofs.Common.{◌≡◌, ℕ, ◌<◌, List, [], ◌∷◌, ◌++◌, length, map, sym, ◌∙◌, ap, arith, Option, Some, None, Bor}
use Rattle.std.specs.Option.{option_map_or}
use Rattle.std.specs.List.{slice_split}
use Rattle.thread_frames.specs.declared.frame.FrameIn.{FrameIn}
use Rattle.thread_frame_lines.specs.FrameLines.{is_feed, lines_of, frame_of, told, Spells}

abbrev Told : Type 0
Told = Option (List ℕ × List ℕ)

same_rest : (x y : Told) (xs ys : List Told) → x ∷ xs ≡ y ∷ ys → xs ≡ ys
same_rest x y xs ys e = cc

-- all frames are more than those in front of one more line
longer : (fs gs : List FrameIn) (x : Told) (rest : List Told) → map told fs ++ x ∷ rest ≡ map told gs → length fs < length gs
longer [] [] x rest e = absurd (let z : x ∷ rest ≡ [] = e in cc)
longer [] (g ∷ gs) x rest e = omega arith
longer (f ∷ fs) [] x rest e = absurd (let z : told f ∷ (map told fs ++ x ∷ rest) ≡ [] = e in cc)
longer (f ∷ fs) (g ∷ gs) x rest e = omega (arith, longer fs gs x rest (same_rest (told f) (told g) (map told fs ++ x ∷ rest) (map told gs) e))

-- and none of them is spelled by a line that spells none
none_told : (fs gs : List FrameIn) (rest : List Told) → map told fs ++ None ∷ rest ≡ map told gs → ⊥
none_told [] [] rest e = let z : None ∷ rest ≡ [] = e in cc
none_told [] (g ∷ gs) rest e = let z : ◌≡◌ {A = List Told} (None ∷ rest) (Some (g.device, g.bytes.items) ∷ map told gs) = e in cc
none_told (f ∷ fs) [] rest e = let z : told f ∷ (map told fs ++ None ∷ rest) ≡ [] = e in cc
none_told (f ∷ fs) (g ∷ gs) rest e = none_told fs gs rest (same_rest (told f) (told g) (map told fs ++ None ∷ rest) (map told gs) e)

module _ (text : List ℕ) (fs : List FrameIn) (rest : Option (Bor (List ℕ))) (lines : Bor (List ℕ)) (line : List ℕ) (left : List (List ℕ))
    (all : map frame_of (lines_of text) ≡ map told fs ++ map frame_of (option_map_or (λ (it : Bor (List ℕ)). slice_split is_feed it.now) rest []))
    (is : rest ≡ Some lines) (parts : slice_split is_feed lines.now ≡ line ∷ left) where
  next_line : map frame_of (lines_of text) ≡ map told fs ++ frame_of line ∷ map frame_of left
  next_line =
      all ∙ ap (λ (it : Option (Bor (List ℕ))). map told fs ++ map frame_of (option_map_or (λ (it : Bor (List ℕ)). slice_split is_feed it.now) it [])) is
      ∙ ap (λ it. map told fs ++ map frame_of it) parts

  pub too_many : length fs ≡ 65536 → (gs : List FrameIn) → Spells text gs → ⊥
  too_many full gs h = omega (arith, full, h.few, longer fs gs (frame_of line) (map frame_of left) (sym next_line ∙ h.lines))

  pub no_frame : frame_of line ≡ None → (gs : List FrameIn) → Spells text gs → ⊥
  no_frame bad gs h = none_told fs gs (map frame_of left) (ap (λ it. map told fs ++ it ∷ map frame_of left) (sym bad) ∙ sym next_line ∙ h.lines)
