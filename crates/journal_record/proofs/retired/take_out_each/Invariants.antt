use Rattle.std.proofs.Common.{◌≡◌, not, filter, take}
use Rattle.bt_roots.specs.declared.target.Target.TheVariants.{Map, Prog}
use Rattle.host_state.specs.Settled.{is_listed}
use Rattle.journal_record.specs.Listed.{Rises}
use Rattle.journal_record.proofs.retired.take_out_each.Given as goal

abbrev pub invariant-loop-target : goal.invariant-loop-target
invariant-loop-target l = record {
  maps_rise : Rises l.maps.items;
  progs_rise : Rises l.progs.items;
  maps_left : l.maps.items ≡ filter (λ id. not (is_listed (take l.target-index l.targets) (Map id))) l.initial.maps.items;
  progs_left : l.progs.items ≡ filter (λ id. not (is_listed (take l.target-index l.targets) (Prog id))) l.initial.progs.items;
}
