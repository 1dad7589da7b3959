use Rattle.std.proofs.Common.{length, ap, ◌∙◌, arith, length-append}
use Rattle.bt_mapkind.proofs.kept.keyed.Goals as goal

pub returns-clause-divides : goal.returns-clause-divides
returns-clause-divides c =
    let all = ap length c.append-2.ensures.items ∙ length-append c.append.new.bytes.items c.args.value.now in
    let key = ap length c.append.ensures.items ∙ length-append c.args.bytes.now.items c.args.key.now in
    let none = ap length c.requires.empty in
    record {
      inside = omega (arith, all, key, none);
      first = c.requires.key;
      second = omega (arith, all, key, none, c.requires.value);
    }
