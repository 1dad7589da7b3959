use Rattle.std.proofs.Common.{◌∙◌, ap}
use Rattle.bt_verify.specs.Program.{ProgramView}
use Rattle.bt_verify.proofs.program.Program.verified.Goals as goal

pub returns : goal.returns
returns c = c.deref.ensures ∙ ap (λ (p : ProgramView). p.code) c.self.view_is
