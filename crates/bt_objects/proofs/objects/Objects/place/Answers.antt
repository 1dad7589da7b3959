use Rattle.std.proofs.Common.{sym, ap, ◌+◌, ◌∙◌}
use Rattle.bt_objects.specs.declared.make.Make.{Make}
use Rattle.bt_objects.specs.Boxes.{charged_of, seen_boxes}
use Rattle.bt_objects.proofs.BoxLemmas.{charged_of-insert, none_of, ok_of}
use Rattle.bt_objects.proofs.objects.Objects.place.Goals as goal

pub invariant_of-self-2 : goal.invariant_of-self-2
invariant_of-self-2 g c =
    let old = seen_boxes c.self.inside.boxes.entries in
    let free = none_of _ _ c.holds.ensures.1 c.if-holds.false in
    ap (λ n. n + c.make-charge.result.charge) c.self.invariant
    ∙ ap (λ (m : Make). charged_of old + m.charge) c.make-charge.ensures
    ∙ sym (charged_of-insert old c.args.id c.new-placed.result free)
    ∙ ap charged_of (sym (ok_of c.insert_in.result _ c.insert_in.ensures.placed (sym c.is_err.ensures.value ∙ c.if-is_err.false)))
