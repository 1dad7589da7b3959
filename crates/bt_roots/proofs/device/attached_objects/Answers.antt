use Rattle.std.proofs.Common.{◌↔◌, rules, tests, sym, subst, Contains}
use Rattle.std.proofs.lemmas.Iterator.{items_from_collect, YieldsList-from_slice}
use Rattle.std.proofs.lemmas.Iterator.Consumers.{YieldsList-from_filter_map}
use Rattle.std.proofs.lemmas.Result.{IfOk-weaker}
use Rattle.std.specs.Option.{option_map}
use Rattle.bt_roots.specs.declared.target.Target.TheVariants.{Prog}
use Rattle.bt_roots.specs.Reachable.{IsAttached}
use Rattle.bt_roots.proofs.Starts.{attached_progs}
use Rattle.bt_roots.proofs.device.attached_objects.Goals as goal

pub returns : goal.returns
returns c =
    let devices = c.args.devices.now in
    let listed = items_from_collect _ c.collect.ensures.ran
    (YieldsList-from_filter_map _ (λ device. option_map Prog device.prog) (YieldsList-from_slice devices cc) c.filter_map.ensures.closure
    (λ x r q k. search (rules, tests))) in
    IfOk-weaker c.collect.result _ _ (λ objects e t. subst (λ l. Contains l t ↔ IsAttached devices t) (sym e) (attached_progs devices t)) listed
