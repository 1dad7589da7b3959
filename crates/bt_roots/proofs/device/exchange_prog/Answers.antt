use Rattle.std.proofs.Common.{◌<◌, length, set, arith, sym, ap, ◌∙◌}
use Rattle.bt_roots.proofs.DeviceLemmas.{prog_at-there, attach_at-there}
use Rattle.bt_roots.proofs.device.exchange_prog.Goals as goal

pub returns-clause-before : goal.returns-clause-before
returns-clause-before c =
    let there : c.args.position < length c.args.devices.now.items = omega arith in
    c.replace.ensures.value
    ∙ ap (λ device. device.prog) c.index_mut-device.ensures.value
    ∙ sym (prog_at-there c.args.devices.now.items c.args.position c.index_mut-device.result.now there)

pub returns-clause-after : goal.returns-clause-after
returns-clause-after c =
    (λ i. set c.args.devices.now.items c.args.position (record { name = (c.index_mut-device.ensures.value i).name; prog = c.replace.ensures.after i }))
    ∙ sym (attach_at-there c.args.devices.now.items c.args.position c.index_mut-device.result.now c.args.prog)
