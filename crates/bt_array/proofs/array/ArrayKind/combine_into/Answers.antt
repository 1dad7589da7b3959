use Rattle.std.proofs.Common.{length-set, ◌∙◌, ap, sym, length}
use Rattle.bt_mapkind.specs.Step.{part_fault}
use Rattle.bt_array.proofs.ArrayLemmas.{sizes_combined}
use Rattle.bt_array.proofs.array.ArrayKind.combine_into.Goals as goal

pub invariant_of-self : goal.invariant_of-self
invariant_of-self c = record {
  good_attr = c.args.self.now.good_attr;
  count = ap length c.combine.ensures ∙ length-set _ _ _ ∙ c.args.self.now.count;
  sizes = sizes_combined c.args.self.now.attr c.args.self.now.values c.combine.new.self c.args.key.now c.args.offset c.args.size c.args.op c.args.operand c.in-Ok.index
      (record { good = c.args.self.now.good_attr; count = c.args.self.now.count; sizes = c.args.self.now.sizes })
      (ap (part_fault c.args.self.now.attr c.args.self.now.values c.args.key.now c.args.offset) (sym c.in_bytes.ensures) ∙ c.in-Ok.ensures.found.0)
      c.in-Ok.ensures.found.1 c.combine.ensures;
}
