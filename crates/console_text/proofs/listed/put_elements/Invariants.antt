use Rattle.std.proofs.Common.{drop}
use Rattle.std.specs.List.{flat_map}
use Rattle.console_text.specs.Text.{element_text}
use Rattle.console_text.proofs.Writing.{Written}
use Rattle.console_text.proofs.listed.put_elements.Given as goal

abbrev pub invariant-loop-element : goal.invariant-loop-element
invariant-loop-element g l = Written (g.W.Output.contents l.initial.out) (g.W.Output.contents l.out) (flat_map element_text l.elements) (flat_map element_text (drop l.element-index l.elements))
