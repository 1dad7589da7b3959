-- A frame and its device: what is spelled is read, what is read is spelled, and each state can be gone on with.
use Rattle.std.proofs.Common.{◌≡◌, ℕ, List, [], ◌∷◌, refl, sym, ◌∙◌, ap, subst, Option, Some, IsSome}
use Rattle.std.specs.Prelude.{codes}
use Rattle.std.specs.Option.{option_map, option_and_then}
use Rattle.hex.specs.Hex.{decode_pairs}
use Rattle.console_operand.specs.Automaton.{read}
use Rattle.bt_syntax.specs.FrameGrammar.{frame_bytes, frame_at, IsFrame, frame}
use Rattle.bt_syntax.specs.FrameSteps.{frame_step, frame_finish}
use Rattle.bt_syntax.specs.declared.frame.Frame.{Frame}
use Rattle.bt_syntax.specs.declared.frame.FrameState.{FrameState}
use Rattle.bt_syntax.specs.declared.frame.FrameState.TheVariants as f
use Rattle.console_operand.proofs.WordsRead.{literal, parsed, any_word, no_word}

abbrev reads : FrameState → List (List ℕ) → Option Frame
reads state words = read frame_step frame_finish state words

pub frame_read : {words : List (List ℕ)} {it : Frame} → IsFrame words it → read frame_step frame_finish f.Dev words ≡ Some it
frame_read (frame {device} is) = ap (λ o. option_and_then (λ next. reads next []) (option_map (f.Done device) o)) is

pub frame_spelled : (words : List (List ℕ)) (it : Frame) → read frame_step frame_finish f.Dev words ≡ Some it → IsFrame words it
frame_spelled words it h =
    literal frame_step frame_finish f.Dev f.Name (codes "dev") words it (λ w. refl) refl (λ named cut more.
    any_word frame_step frame_finish f.Name f.Bytes named it (λ w. refl) refl (λ device rest there on.
    parsed frame_step frame_finish (f.Bytes device) frame_bytes (f.Done device) rest it (λ w. refl) refl (λ word last bytes found is done.
    let (none, same) = no_word frame_step frame_finish (f.Done device bytes) (frame_at device bytes) last it (λ w. refl) refl done in
    let all : words ≡ codes "dev" ∷ device ∷ word ∷ [] = cut ∙ ap (λ ws. codes "dev" ∷ ws) (there ∙ ap (λ ws. device ∷ ws) (found ∙ ap (λ ws. word ∷ ws) none)) in
    subst (λ ws. IsFrame ws it) (sym all) (subst (IsFrame (codes "dev" ∷ device ∷ word ∷ [])) same (frame is))) on) more) h

-- a frame of no bytes
empty_frame : frame_bytes (codes "hex:") ≡ Some []
unfolding decode_pairs
empty_frame = refl

abbrev pub frame_end : FrameState → List (List ℕ)
frame_end f.Dev = codes "dev" ∷ codes "x" ∷ codes "hex:" ∷ []
frame_end f.Name = codes "x" ∷ codes "hex:" ∷ []
frame_end (f.Bytes device) = codes "hex:" ∷ []
frame_end (f.Done device bytes) = []

bytes_end : (device : List ℕ) → IsSome (reads (f.Bytes device) (codes "hex:" ∷ []))
bytes_end device = subst (λ o. IsSome (option_and_then (λ next. reads next []) (option_map (f.Done device) o))) (sym empty_frame) refl

pub frame_ends : (state : FrameState) → IsSome (read frame_step frame_finish state (frame_end state))
frame_ends f.Dev = bytes_end (codes "x")
frame_ends f.Name = bytes_end (codes "x")
frame_ends (f.Bytes device) = bytes_end device
frame_ends (f.Done device bytes) = refl
