use Rattle.std.proofs.Common.{not, get_or, sym, ap}
use Rattle.bt_roots.specs.Live.{is_same}
use Rattle.bt_roots.specs.declared.target.Target.{Target}
use Rattle.bt_roots.specs.declared.target.Target.TheVariants.{Map, Prog}
use Rattle.journal_record.proofs.AscendLemmas.{filter-all}
use Rattle.journal_record.proofs.retired.take_out_one.Goals as goal

pub returns-in-Map-clause-progs : goal.returns-in-Map-clause-progs
returns-in-Map-clause-progs c = sym (filter-all (λ id. not (is_same (Prog id) c.args.target.now)) c.args.progs.now.items (λ i below. ap (λ (t : Target). not (is_same (Prog (get_or c.args.progs.now.items i 0)) t)) c.in-Map.is))

pub returns-in-Prog-clause-maps : goal.returns-in-Prog-clause-maps
returns-in-Prog-clause-maps c = sym (filter-all (λ id. not (is_same (Map id) c.args.target.now)) c.args.maps.now.items (λ i below. ap (λ (t : Target). not (is_same (Map (get_or c.args.maps.now.items i 0)) t)) c.in-Prog.is))
