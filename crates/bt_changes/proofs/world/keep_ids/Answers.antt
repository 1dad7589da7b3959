use Rattle.std.proofs.Common.{◌≡◌, ap, ◌∙◌, rules}
use Rattle.std.specs.List.{filter}
use Rattle.std.proofs.lemmas.Map.Made.{filter_same_pairs}
use Rattle.bt_objects.specs.Ids.{is_among}
use Rattle.host_state.specs.Hosts.{found_in}
use Rattle.bt_changes.proofs.PlacedLemmas.{found_in-filter}
use Rattle.bt_changes.proofs.world.keep_ids.Goals as goal

pub returns : goal.returns
returns g c =
    let kept : c.retain.new.self.entries ≡ filter (λ e. is_among c.args.ids.now e.0) c.args.entries.now.entries = filter_same_pairs _ (λ e. is_among c.args.ids.now e.0) _ (λ k v b w f' t. search rules) _ _ c.retain.ensures.filtered in
    λ q. ap (λ es. found_in es q) kept ∙ found_in-filter c.args.ids.now c.args.entries.now.entries q
