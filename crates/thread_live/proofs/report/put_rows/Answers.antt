use Rattle.console_text.proofs.Writing.{written_item, written_item_front}
use Rattle.thread_live.specs.Reports.{row_text}
use Rattle.thread_live.proofs.report.put_rows.Goals as goal

pub loop-row-preserved : goal.loop-row-preserved
loop-row-preserved g c = written_item row_text _ _ _ _ c.args.rows.now c.loop-row.row-index _ c.loop-row-test.true c.loop-row.invariant c.in-Ok.ensures.text

pub returns-in-Err-clause-text : goal.returns-in-Err-clause-text
returns-in-Err-clause-text g c = written_item_front row_text _ _ _ _ c.args.rows.now c.loop-row.row-index _ c.loop-row-test.true c.loop-row.invariant c.in-Err.ensures.text
