use Rattle.std.proofs.Common.{refl}
use Rattle.bt_lpm.proofs.KeyLemmas.{has_keys, keys_none}
use Rattle.bt_lpm.proofs.lpm.PrefixesAddressing.new.Goals as goal

pub returns-in-Ok : goal.returns-in-Ok
returns-in-Ok c = ∣ has_keys _ _ (keys_none c.args.attr _ _ refl c.in-Ok.ensures) ∣₁
