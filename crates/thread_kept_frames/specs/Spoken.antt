-- What a thread that reads lines hands over, and what is heard of it.
use Rattle.std.specs.Prelude.{◌≡◌, ℕ, ◌+◌, ◌<◌, List, [], length, Option, Some, None, IfSome, Result, Ok, Err, ⊤}
use Rattle.console_input.specs.declared.fault.ReadFault.{ReadFault}
use Rattle.console_input.specs.declared.fault.ReadFault.TheVariants.{Unread}
use Rattle.console_input.specs.declared.fault.Cause.TheVariants.{TooLong}
use Rattle.console_input.specs.declared.source.TheConstants.{MOST_SCRIPT}
use Rattle.thread_kept_frames.specs.declared.live.lines.Heard.{Heard}
use Rattle.thread_kept_frames.specs.declared.live.lines.Heard.TheVariants as heard
use Rattle.thread_kept_frames.specs.declared.live.spoken.Last.{Last as IsLast}
use Rattle.thread_kept_frames.specs.declared.live.spoken.Last.TheVariants.{End, Fault}
use Rattle.thread_kept_frames.specs.declared.live.spoken.Spoken.{Spoken}
use Rattle.thread_kept_frames.specs.declared.live.spoken.Spoken.TheVariants.{Line, Last}
use Rattle.thread_kept_frames.specs.Hearing.{TakesLine}

-- the next line of an input, if its bytes are known, and how many may come after it; or what comes last
abbrev pub SpeaksNext : Option (List ℕ) → Option (List ℕ) → ℕ → Spoken → Option ℕ → Type 0
SpeaksNext old new left (Line line) (Some still) = TakesLine old new line.bytes.items left still
SpeaksNext old new left (Last End) None = IfSome old (λ text. text ≡ [])
SpeaksNext old new left (Last (Fault fault)) None = ⊤
SpeaksNext _ _ _ _ _ = ⊥

-- what is heard of what comes last
abbrev pub heard_last : IsLast → Result Heard ReadFault
heard_last End = Ok heard.End
heard_last (Fault fault) = Err fault

-- a line is heard whole, unless it has more bytes than may still come
abbrev pub HearsSpoken : Spoken → List ℕ → ℕ → Result Heard ReadFault → Type 0
HearsSpoken (Line spoken) line left (Ok (heard.Line still)) = (line ≡ spoken.bytes.items) × (length line + still ≡ left)
HearsSpoken (Line spoken) line left (Err fault) = (left < length spoken.bytes.items) × (fault ≡ Unread (TooLong MOST_SCRIPT))
HearsSpoken (Last last) line left result = result ≡ heard_last last
HearsSpoken _ _ _ _ = ⊥

-- what is heard again after this was heard, if it comes last
abbrev pub again_after : Result Heard ReadFault → Option (Result Heard ReadFault)
again_after (Ok (heard.Line still)) = None
again_after (Ok heard.NotYet) = None
again_after (Ok heard.End) = Some (Ok heard.End)
again_after (Err fault) = Some (Err fault)
