use Rattle.std.proofs.Common.{arith, subst}
use Rattle.std.specs.Io.KnownBytes.{Appends}
use Rattle.console_text.specs.Written.{WritesFront}
use Rattle.console_text.proofs.Writing.{written_item, written_item_front}
use Rattle.kept_log.specs.LogText.{row_text}
use Rattle.kept_log.proofs.text.put_log.Goals as goal

pub loop-row-preserved : goal.loop-row-preserved
loop-row-preserved g c =
    written_item row_text _ _ _ _ c.args.rows.now c.loop-row.row-index c.row-item.result (omega arith) c.loop-row.invariant
    (subst (λ it. Appends (g.W.Output.contents c.loop-row.out) (g.W.Output.contents c.put_row.new.out) (row_text it)) c.row-item.is c.in-Ok.ensures.text)

pub returns-in-Err-clause-text : goal.returns-in-Err-clause-text
returns-in-Err-clause-text g c =
    written_item_front row_text _ _ _ _ c.args.rows.now c.loop-row.row-index c.row-item.result (omega arith) c.loop-row.invariant
    (subst (λ it. WritesFront (g.W.Output.contents c.loop-row.out) (g.W.Output.contents c.put_row.new.out) (row_text it)) c.row-item.is c.in-Err.ensures.text)
