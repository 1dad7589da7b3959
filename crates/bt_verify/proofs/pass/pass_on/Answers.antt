use Rattle.bt_verify.proofs.Table.{passes}
use Rattle.bt_verify.proofs.pass.pass_on.Goals as goal

pub returns : goal.returns
returns c =
    passes c.args.insn c.args.place c.args.out c.args.masks.now c.meet_at.new.masks c.meet_at-2.new.masks
    (rw c.next_of-next.ensures at c.meet_at.ensures)
    (rw c.jump_of-jump.ensures at c.meet_at-2.ensures)
