use Rattle.std.proofs.Common.{Some, ap, subst}
use Rattle.bt_verify.specs.Maps.{AreNamed}
use Rattle.bt_verify.specs.Slots.{slots}
use Rattle.bt_verify.specs.Verified.{Checked}
use Rattle.kept_event.proofs.CodeRead.{verified_same}
use Rattle.kept_event.proofs.code.verified.Goals as goal

pub returns-in-Ok : goal.returns-in-Ok
returns-in-Ok c code is insns maps =
    let named = subst (λ given. AreNamed (slots c.args.insns.items) given c.in-Ok.verified.maps) c.new.ensures c.in-Ok.ensures.maps in
    ap (λ (x : Checked). Some x) (verified_same code c.in-Ok.verified c.args.insns.items c.args.maps.items is insns maps c.in-Ok.ensures.insns named)
