-- A frame and the device that it comes in at, as their words spell them.
use Rattle.std.specs.Prelude.{◌≡◌, ℕ, nat_le, ◌&&◌, if◌then◌else◌, List, [], ◌∷◌, length, drop, Option, Some, None, codes}
use Rattle.console_operand.specs.Number.{begins}
use Rattle.console_operand.specs.Object.{hex_bytes}
use Rattle.bt_syntax.specs.declared.frame.Frame.{Frame}

-- `hex:` and at most 8,192 digits
abbrev pub frame_bytes : List ℕ → Option (List ℕ)
frame_bytes word = if begins word (codes "hex:") && nat_le (length word) 8196 then hex_bytes (drop 4 word) else None

abbrev pub frame_at : List ℕ → List ℕ → Frame
frame_at device bytes = record { device = device; bytes = bytes }

-- the words are this frame
pub data IsFrame : List (List ℕ) → Frame → Type 0 where
  frame : {device word bytes : List ℕ} → frame_bytes word ≡ Some bytes → IsFrame (codes "dev" ∷ device ∷ word ∷ []) (frame_at device bytes)
