-- What a call for a line comes to.
use Rattle.std.specs.Prelude.{◌≡◌, ℕ, ◌+◌, ◌<◌, List, [], length, Option, IfSome}
use Rattle.std.specs.Io.BufRead.{take_through, DropsThrough}
use Rattle.thread_kept_frames.specs.declared.live.lines.Heard.{Heard}
use Rattle.thread_kept_frames.specs.declared.live.lines.Heard.TheVariants.{Line, NotYet, End}

-- of an input, if its bytes are known, the first line was taken, with its line feed; of so many bytes so many may still come
pub record TakesLine (old new : Option (List ℕ)) (line : List ℕ) (left still : ℕ) : Type 0 where
  pub some : 0 < length line
  pub line_is : IfSome old (λ text. line ≡ take_through 10 text)
  pub rest : DropsThrough old new 10
  pub counts : length line + still ≡ left

-- or nothing was taken, since no line had come, or since the input was at its end
abbrev pub Hears : Option (List ℕ) → Option (List ℕ) → List ℕ → ℕ → Heard → Type 0
Hears old new line left (Line still) = TakesLine old new line left still
Hears old new line left NotYet = new ≡ old
Hears old new line left End = IfSome old (λ text. text ≡ [])
