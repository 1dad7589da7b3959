use Rattle.console_text.specs.Text.{made_by_text, deed_text}
use Rattle.console_text.proofs.Writing.{Writes-then, WritesFront-more}
use Rattle.console_text.proofs.journal_text.put_made.Goals as goal

pub returns-in-Ok-clause-text : goal.returns-in-Ok-clause-text
returns-in-Ok-clause-text g c =
    let row = c.args.row.now in
    Writes-then _ _ _ (made_by_text row.serial row.origin) (deed_text row.deed) c.put_deed.result c.in-Ok.ensures.text c.put_deed.ensures.text

pub returns-in-Err-clause-text : goal.returns-in-Err-clause-text
returns-in-Err-clause-text g c =
    let row = c.args.row.now in
    WritesFront-more _ _ (made_by_text row.serial row.origin) (deed_text row.deed) c.in-Err.ensures.text
