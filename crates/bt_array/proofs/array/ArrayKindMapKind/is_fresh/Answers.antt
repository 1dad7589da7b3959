use Rattle.bt_array.proofs.ArrayLemmas.{IsArray, zero_is_fresh, fresh_is_zero}
use Rattle.bt_array.proofs.array.ArrayKindMapKind.is_fresh.Goals as goal

pub returns : goal.returns
returns c =
    let k : IsArray c.args.self.now.attr c.args.self.now.values = record { good = c.args.self.now.good_attr; count = c.args.self.now.count; sizes = c.args.self.now.sizes } in
    (λ all. zero_is_fresh _ _ k (c.is_zero.ensures.0 all), λ is. c.is_zero.ensures.1 (fresh_is_zero _ _ k is))
