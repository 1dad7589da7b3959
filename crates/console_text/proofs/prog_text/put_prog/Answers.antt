use Rattle.std.proofs.Common.{◌++◌, subst}
use Rattle.std.specs.Prelude.{codes}
use Rattle.console_text.specs.Text.{program_text, ids_text}
use Rattle.console_text.specs.Written.{Writes, WritesFront}
use Rattle.console_text.proofs.Writing.{Writes-then, WritesFront-more}
use Rattle.console_text.proofs.prog_text.put_prog.Goals as goal

pub returns-in-Ok-clause-text : goal.returns-in-Ok-clause-text
returns-in-Ok-clause-text g c =
    let row = c.args.row.now in
    subst (λ name. Writes (g.W.Output.contents c.args.out.now) (g.W.Output.contents c.put_end.new.out) c.put_end.result (program_text row.id name row.insns ++ (ids_text row.maps ++ codes "\n")))
    c.as_slice.ensures.value
    (subst (λ maps. Writes (g.W.Output.contents c.args.out.now) (g.W.Output.contents c.put_end.new.out) c.put_end.result (program_text row.id c.as_slice.result.now row.insns ++ (ids_text maps ++ codes "\n")))
    c.as_slice-in-Ok.ensures
    (Writes-then _ _ _ (program_text row.id c.as_slice.result.now row.insns) (ids_text c.as_slice-in-Ok.result.now ++ codes "\n") c.put_end.result c.in-Ok.ensures.text c.put_end.ensures.text))

pub returns-in-Err-clause-text : goal.returns-in-Err-clause-text
returns-in-Err-clause-text g c =
    let row = c.args.row.now in
    subst (λ name. WritesFront (g.W.Output.contents c.args.out.now) (g.W.Output.contents c.put_program.new.out) (program_text row.id name row.insns ++ (ids_text row.maps ++ codes "\n")))
    c.as_slice.ensures.value
    (WritesFront-more _ _ (program_text row.id c.as_slice.result.now row.insns) (ids_text row.maps ++ codes "\n") c.in-Err.ensures.text)
