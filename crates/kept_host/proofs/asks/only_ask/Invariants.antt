use Rattle.std.proofs.Common.{◌≡◌, length}
use Rattle.console_operand.specs.Line.{lines_of}
use Rattle.kept_host.specs.Asks.{only_ask}
use Rattle.kept_host.proofs.asks.only_ask.Given as goal

abbrev pub invariant-lines : goal.invariant-lines
invariant-lines l = only_ask (lines_of l.rest) ≡ only_ask (lines_of l.fn.text)

abbrev pub decreases-lines : goal.decreases-lines
decreases-lines l = length l.rest
