use Rattle.std.proofs.Common.{arith, subst}
use Rattle.std.specs.Io.KnownBytes.{Appends}
use Rattle.console_text.specs.Text.{element_text}
use Rattle.console_text.specs.Written.{WritesFront}
use Rattle.console_text.proofs.Writing.{written_item, written_item_front}
use Rattle.console_text.proofs.listed.put_elements.Goals as goal

pub loop-element-preserved : goal.loop-element-preserved
loop-element-preserved g c =
    written_item element_text _ _ _ _ c.args.elements.now c.loop-element.element-index c.element-item.result (omega arith) c.loop-element.invariant
    (subst (λ it. Appends (g.W.Output.contents c.loop-element.out) (g.W.Output.contents c.put_element.new.out) (element_text it)) c.element-item.is c.in-Ok.ensures.text)

pub returns-in-Err-clause-text : goal.returns-in-Err-clause-text
returns-in-Err-clause-text g c =
    written_item_front element_text _ _ _ _ c.args.elements.now c.loop-element.element-index c.element-item.result (omega arith) c.loop-element.invariant
    (subst (λ it. WritesFront (g.W.Output.contents c.loop-element.out) (g.W.Output.contents c.put_element.new.out) (element_text it)) c.element-item.is c.in-Err.ensures.text)
