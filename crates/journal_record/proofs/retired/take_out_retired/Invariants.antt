use Rattle.std.proofs.Common.{◌≡◌, not, filter, take}
use Rattle.bt_roots.specs.declared.target.Target.TheVariants.{Map, Prog}
use Rattle.journal_record.specs.Retired.{is_retired_by}
use Rattle.journal_record.specs.Listed.{Rises}
use Rattle.journal_record.proofs.retired.take_out_retired.Given as goal

abbrev pub invariant-loop-index : goal.invariant-loop-index
invariant-loop-index l = record {
  maps_rise : Rises l.maps.items;
  progs_rise : Rises l.progs.items;
  maps_left : l.maps.items ≡ filter (λ id. not (is_retired_by (take l.index l.records.items) (Map id))) l.initial.maps.items;
  progs_left : l.progs.items ≡ filter (λ id. not (is_retired_by (take l.index l.records.items) (Prog id))) l.initial.progs.items;
}
