use Rattle.std.proofs.Common.{◌≡◌, ℕ, ◌-◌, ◌<◌, ◌≤◌, length, get_or, false}
use Rattle.console_operand.specs.Word.{ends_word}
use Rattle.console_operand.proofs.words.word_len.Given as goal

abbrev pub invariant-loop-n : goal.invariant-loop-n
invariant-loop-n l = record { bound : l.n ≤ length l.line; inside : (k : ℕ) → k < l.n → ends_word (get_or l.line k 0) ≡ false }

abbrev pub decreases-loop-n : goal.decreases-loop-n
decreases-loop-n l = length l.line - l.n
