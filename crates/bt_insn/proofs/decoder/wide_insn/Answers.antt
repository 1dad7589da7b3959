use Rattle.std.proofs.Common.{◌∙◌, ap, w32, rules}
use Rattle.std.proofs.lemmas.Int.{to_z-of_z}
use Rattle.bt_insn.proofs.Again.{again_at}
use Rattle.bt_insn.proofs.decoder.wide_insn.Goals as goal

pub returns-then-is_second-clause-only : goal.returns-then-is_second-clause-only
returns-then-is_second-clause-only c = λ v fits first second.
    rw (to_z-of_z w32 c.args.second.immediate (search rules)) at c.insn.ensures.value ∙ again_at v c.args.first c.args.second.immediate fits first (ap (λ f. f.immediate) second)
