use Rattle.std.proofs.Common.{◌≡◌, List, ℕ, set, ap, length, rules}
use Rattle.std.specs.Prelude.{slice_set, replicate}
use Rattle.std.proofs.lemmas.Option.{slice_get_within}
use Rattle.bt_verify.specs.declared.slot.Slot.TheVariants.{First}
use Rattle.bt_verify.proofs.Table.{first_table}
use Rattle.bt_verify.proofs.pass.first_masks.Goals as goal

pub returns : goal.returns
returns c =
    let copies : c.in_ok-masks.masks.items ≡ replicate (length c.args.slots.now) 65535 = search (rules, c.in_ok-masks.ensures.items_if_clones_equal) in
    first_table c.args.slots.now (slice_set c.in_ok-masks.masks.items 0 1026)
    (slice_get_within c.args.slots.now 0 (First c.requires.0) c.requires.1)
    (ap (λ (xs : List ℕ). set xs 0 1026) copies)
