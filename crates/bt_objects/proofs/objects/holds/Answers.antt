use Rattle.std.proofs.Common.{sym, ◌∙◌}
use Rattle.bt_objects.proofs.BoxLemmas.{is_some-seen}
use Rattle.bt_objects.proofs.objects.holds.Goals as goal

pub returns : goal.returns
returns g c =
    let is = is_some-seen c.args.boxes.now c.args.id in
    (λ there. is ∙ sym c.contains_key.ensures ∙ there, λ there. c.contains_key.ensures ∙ sym is ∙ there)
