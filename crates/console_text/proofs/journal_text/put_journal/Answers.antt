use Rattle.std.proofs.Common.{◌++◌, subst}
use Rattle.std.specs.List.{flat_map}
use Rattle.console_text.specs.Text.{change_row_text, mark_row_text}
use Rattle.console_text.specs.Written.{Writes, WritesFront}
use Rattle.console_text.proofs.Writing.{Writes-then, WritesFront-more}
use Rattle.console_text.proofs.journal_text.put_journal.Goals as goal

pub returns-in-Ok-clause-text : goal.returns-in-Ok-clause-text
returns-in-Ok-clause-text g c =
    let list = c.args.list.now in
    subst (λ changes. Writes (g.W.Output.contents c.args.out.now) (g.W.Output.contents c.put_mark_rows.new.out) c.put_mark_rows.result (flat_map change_row_text changes ++ flat_map mark_row_text list.marks))
    c.as_slice.ensures
    (subst (λ marks. Writes (g.W.Output.contents c.args.out.now) (g.W.Output.contents c.put_mark_rows.new.out) c.put_mark_rows.result (flat_map change_row_text c.as_slice.result.now ++ flat_map mark_row_text marks))
    c.as_slice-in-Ok.ensures
    (Writes-then _ _ _ (flat_map change_row_text c.as_slice.result.now) (flat_map mark_row_text c.as_slice-in-Ok.result.now) c.put_mark_rows.result c.in-Ok.ensures.text c.put_mark_rows.ensures.text))

pub returns-in-Err-clause-text : goal.returns-in-Err-clause-text
returns-in-Err-clause-text g c =
    let list = c.args.list.now in
    subst (λ changes. WritesFront (g.W.Output.contents c.args.out.now) (g.W.Output.contents c.put_change_rows.new.out) (flat_map change_row_text changes ++ flat_map mark_row_text list.marks))
    c.as_slice.ensures
    (WritesFront-more _ _ (flat_map change_row_text c.as_slice.result.now) (flat_map mark_row_text list.marks) c.in-Err.ensures.text)
