use Rattle.std.proofs.Common.{subst, sym, ap}
use Rattle.bt_objects.specs.Ids.{Ascends}
use Rattle.journal_timeline.proofs.AscendLemmas.{ascends}
use Rattle.journal_keeping.proofs.boxes.lent.Goals as goal

pub invariant_of-result : goal.invariant_of-result
invariant_of-result c = record {
  maps_ascend = subst Ascends (sym (ap (λ v. v.items) c.replace.ensures.value)) (ascends _ c.requires.maps);
  progs_ascend = subst Ascends (sym (ap (λ v. v.items) c.replace-2.ensures.value)) (ascends _ c.requires.progs);
}
