use Rattle.std.proofs.lemmas.Result.{err_from_is_err_and}
use Rattle.bt_insn.proofs.Readings.{front_within, stops_with}
use Rattle.bt_insn.proofs.decoder.read_slots.Goals as goal

pub returns-in_err-insn-clause-fault : goal.returns-in_err-insn-clause-fault
returns-in_err-insn-clause-fault c =
    let p = err_from_is_err_and c.from_residual-in_err-insn.result c.from_residual-in_err-insn.ensures.1 in
    let loop = c.loop-rest in
    rw (p.1, p.2) (stops_with c.args.bytes.now loop.rest.now loop.insns.items loop.slot c.in_err-insn.field-0.0 c.requires.whole c.requires.few
    loop.invariant.fits loop.invariant.parts loop.invariant.slots c.in_err-insn.ensures.fault)

pub split_at-requires : goal.split_at-requires
split_at-requires c = rw c.slots.ensures (front_within c.loop-rest.rest.now _ c.in_ok-insn.insn c.in_ok-insn.ensures.found)
