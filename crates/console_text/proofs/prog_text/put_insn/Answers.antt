use Rattle.std.proofs.Common.{subst, ◌∙◌, ap, []}
use Rattle.std.specs.Option.{unwrap_or}
use Rattle.console_text.specs.Written.{Writes}
use Rattle.console_text.proofs.CodeLines.{insn_line}
use Rattle.console_text.proofs.prog_text.put_insn.Goals as goal

pub returns-in-Some-clause-text : goal.returns-in-Some-clause-text
returns-in-Some-clause-text g c =
    subst (Writes (g.W.Output.contents c.args.out.now) (g.W.Output.contents c.put_slots.new.out) c.put_slots.result)
    (insn_line c.args.slot c.args.insn c.first_slot-first.result c.in-Some.second c.first_slot-first.ensures (c.second_slot.ensures ∙ ap (λ o. unwrap_or o []) c.in-Some.is)) c.put_slots.ensures.text

pub returns-in-None-clause-text : goal.returns-in-None-clause-text
returns-in-None-clause-text g c =
    subst (Writes (g.W.Output.contents c.args.out.now) (g.W.Output.contents c.put_slots-in-None.new.out) c.put_slots-in-None.result)
    (insn_line c.args.slot c.args.insn c.first_slot-first.result [] c.first_slot-first.ensures (c.second_slot.ensures ∙ ap (λ o. unwrap_or o []) c.in-None.is)) c.put_slots-in-None.ensures.text
