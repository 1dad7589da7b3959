use Rattle.std.proofs.Common.{ℕ, ap, ◌∙◌, ltb, rules, arith}
use Rattle.std.proofs.lemmas.List.{get_or_default}
use Rattle.std.proofs.lemmas.List.Sorted.{IsPartitionPoint-from_clause, IsPartitionedBy-ltb}
use Rattle.bt_mapkind.specs.declared.attr.MapAttr.{MapAttr}
use Rattle.bt_verify.proofs.Members.{rising, none_by_halves}
use Rattle.bt_verify.proofs.lookup.find_by_halves.Goals as goal
use Rattle.bt_verify.proofs.lookup.find_by_halves.Goals.{else-place-maps-via-then-place-maps+else-maps-place, else-place-maps-via-else-place-maps}

pub returns-else-place-maps-clause-none : goal.returns-else-place-maps-clause-none
returns-else-place-maps-clause-none c = λ up.
    let parted = IsPartitionedBy-ltb (λ (m : ℕ × MapAttr). m.0) c.args.maps.now c.args.id (rising c.args.maps.now up) in
    let halves = IsPartitionPoint-from_clause (λ (m : ℕ × MapAttr). ltb m.0 c.args.id) _ _ c.partition_point-place.ensures.partitioned parted (λ a r q k. search rules) in
    none_by_halves c.args.maps.now c.args.id c.partition_point-place.result up halves (λ d within. elim c.else-place-maps.branch [
      | else-place-maps-via-then-place-maps+else-maps-place w ↦ (λ e. w.if-maps-place.false (ap (λ (m : ℕ × MapAttr). m.0) (get_or_default c.args.maps.now c.partition_point-place.result _ d within) ∙ e))
      | else-place-maps-via-else-place-maps w ↦ absurd (let h = w.if-place-maps.false in omega (arith, h, within))
    ])
