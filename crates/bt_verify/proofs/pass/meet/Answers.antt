use Rattle.bt_verify.proofs.Table.{meets_set}
use Rattle.bt_verify.proofs.pass.meet.Goals as goal

pub returns : goal.returns
returns c = meets_set c.args.to c.args.out c.args.masks.now c.requires
