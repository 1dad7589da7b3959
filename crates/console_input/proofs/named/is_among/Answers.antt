use Rattle.std.proofs.Common.{◌∙◌}
use Rattle.console_input.proofs.NamedFiles.{among_texts}
use Rattle.console_input.proofs.named.is_among.Goals as goal

pub returns : goal.returns
returns c = c.is_some.ensures ∙ among_texts (λ bytes. bytes.now) c.file_at.result c.args.files.now c.args.path.now (rw c.as_slice.ensures.value at c.file_at.ensures)
