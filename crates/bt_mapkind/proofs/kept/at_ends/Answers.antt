use Rattle.std.proofs.Common.{length, ap, ◌∙◌, arith, length-append}
use Rattle.bt_mapkind.specs.Kept.{some_bytes}
use Rattle.bt_mapkind.proofs.kept.at_ends.Goals as goal

pub returns-clause-divides : goal.returns-clause-divides
returns-clause-divides c =
    let front = ap length c.append_some.ensures.items ∙ length-append c.args.bytes.now.items (some_bytes c.args.put_front.now) in
    let all = ap length c.append_some-2.ensures.items ∙ length-append c.append_some.new.bytes.items (some_bytes c.args.put_rear.now) in
    let none = ap length c.requires.empty in
    record {
      inside = omega (arith, all, front, none, c.len-front.ensures);
      first = omega (arith, front, none, c.len-front.ensures, c.append_some.ensures.short);
      second = omega (arith, all, c.len-front.ensures, c.append_some-2.ensures.short);
    }
