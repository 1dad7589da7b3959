use Rattle.std.proofs.Common.{◌∙◌}
use Rattle.std.proofs.lemmas.Result.{IfOk-weaker}
use Rattle.host_retirement.proofs.retire.retire.Goals as goal

pub returns-clause-retired : goal.returns-clause-retired
returns-clause-retired g c =
    IfOk-weaker c.retire_by.result _ _ (λ retired is. is c.args.objects.now.by_id c.requires (c.deref.ensures.value ∙ c.in_ok-links.ensures.links c.args.roots.now))
    c.retire_by.ensures.retired
