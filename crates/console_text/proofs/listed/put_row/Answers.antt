use Rattle.std.proofs.Common.{◌++◌, subst}
use Rattle.console_text.specs.Text.{naming_text, sizes_text, end_text}
use Rattle.console_text.specs.Written.{Writes, WritesFront}
use Rattle.console_text.proofs.Writing.{Writes-then, WritesFront-more}
use Rattle.console_text.proofs.listed.put_row.Goals as goal

pub returns-in-Ok-clause-text : goal.returns-in-Ok-clause-text
returns-in-Ok-clause-text g c =
    let row = c.args.row.now in
    subst (λ name. Writes (g.W.Output.contents c.args.out.now) (g.W.Output.contents c.put_rest.new.out) c.put_rest.result (naming_text row.id row.attr.kind name ++ (sizes_text row.attr ++ end_text row.frozen)))
    c.as_slice.ensures.value
    (Writes-then _ _ _ (naming_text row.id row.attr.kind c.as_slice.result.now) (sizes_text row.attr ++ end_text row.frozen) c.put_rest.result c.in-Ok.ensures.text c.put_rest.ensures.text)

pub returns-in-Err-clause-text : goal.returns-in-Err-clause-text
returns-in-Err-clause-text g c =
    let row = c.args.row.now in
    subst (λ name. WritesFront (g.W.Output.contents c.args.out.now) (g.W.Output.contents c.put_naming.new.out) (naming_text row.id row.attr.kind name ++ (sizes_text row.attr ++ end_text row.frozen)))
    c.as_slice.ensures.value
    (WritesFront-more _ _ (naming_text row.id row.attr.kind c.as_slice.result.now) (sizes_text row.attr ++ end_text row.frozen) c.in-Err.ensures.text)
