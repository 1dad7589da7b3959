use Rattle.std.proofs.Common.{◌≡◌, ap, ◌∙◌}
use Rattle.bt_insn.specs.Spelling.{spelling}
use Rattle.bt_verify.specs.Program.{ProgramView}
use Rattle.kept_event.proofs.CodeRead.{is_checked}
use Rattle.kept_event.proofs.code.code_bytes.Goals as goal

pub returns-clause-checked : goal.returns-clause-checked
returns-clause-checked c =
    let same : c.verified.result.now ≡ c.args.code.now = c.verified.ensures ∙ ap (λ (p : ProgramView). p.code) c.in_ok-program.ensures in
    is_checked c.args.code.now c.verified.result.now c.slots-slots.result.now c.in_ok-bytes.bytes.items same c.slots-slots.ensures.value c.slots-slots.ensures.verified
    (c.in_ok-bytes.ensures.spelled ∙ ap spelling c.insns.ensures) (rw c.insns.ensures at c.in_ok-bytes.ensures.again) (rw c.maps.ensures at c.in_ok-maps.ensures.fit)
