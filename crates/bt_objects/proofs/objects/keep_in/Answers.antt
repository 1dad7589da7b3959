use Rattle.std.proofs.Common.{◌≡◌, ap, ◌∙◌, rules}
use Rattle.std.specs.List.{filter}
use Rattle.std.proofs.lemmas.Map.Made.{filter_same_pairs}
use Rattle.bt_objects.specs.Ids.{is_among}
use Rattle.bt_objects.specs.Boxes.{seen_boxes}
use Rattle.bt_objects.proofs.KeptLemmas.{seen_boxes-filter, charged_of-listed, lighter}
use Rattle.bt_objects.proofs.objects.keep_in.Goals as goal

pub returns-clause-kept : goal.returns-clause-kept
returns-clause-kept g c =
    let kept : c.retain.new.self.entries ≡ filter (λ e. is_among c.args.ids.now e.0) c.args.boxes.now.entries = filter_same_pairs _ (λ e. is_among c.args.ids.now e.0) _ (λ k v b w f' t. search rules) _ _ c.retain.ensures.filtered in
    ap seen_boxes kept ∙ seen_boxes-filter (is_among c.args.ids.now) c.args.boxes.now.entries

pub returns-clause-charges : goal.returns-clause-charges
returns-clause-charges g c = charged_of-listed c.retain.new.self.entries c.retain.ensures.ordered

pub returns-clause-lighter : goal.returns-clause-lighter
returns-clause-lighter g c =
    let kept : c.retain.new.self.entries ≡ filter (λ e. is_among c.args.ids.now e.0) c.args.boxes.now.entries = filter_same_pairs _ (λ e. is_among c.args.ids.now e.0) _ (λ k v b w f' t. search rules) _ _ c.retain.ensures.filtered in
    rw (kept, charged_of-listed c.args.boxes.now.entries c.retain.ensures.was_ordered) (lighter (is_among c.args.ids.now) c.args.boxes.now.entries)
