use Rattle.program_machine.proofs.Puts.{put_by}
use Rattle.program_machine.specs.Pointers.{alu_held}
use Rattle.program_machine.proofs.pointer.calculate.Goals as goal

pub returns : goal.returns
returns c =
    put_by (alu_held c.args.width c.args.op c.args.dst.now c.args.src.now) c.calculated.result c.args.dst.now c.calculated.new.dst
    c.calculated.ensures
