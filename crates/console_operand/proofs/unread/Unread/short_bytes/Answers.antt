use Rattle.std.proofs.Common.{◌≡◌, ◌+◌, ◌<◌, ℕ, List, [], length, take, refl, sym, subst, arith}
use Rattle.std.proofs.lemmas.Grind.{take-set_at}
use Rattle.console_operand.specs.DataSteps.{spelled_byte, TakesBytes}
use Rattle.console_operand.proofs.DataRead.{takes_no_bytes, takes_more_bytes}
use Rattle.console_operand.proofs.unread.Unread.short_bytes.Goals as goal

pub loop-count-init : goal.loop-count-init
loop-count-init c = record {
  bound = omega arith;
  took = subst (λ at. TakesBytes (spelled_byte c.args.is_hex) c.args.self.now [] at) (sym c.again-left.ensures) (takes_no_bytes (spelled_byte c.args.is_hex) c.args.self.now);
}

pub loop-count-preserved : goal.loop-count-preserved
loop-count-preserved c =
    let count : ℕ = c.loop-count.count in
    let bytes : List ℕ = c.loop-count.bytes in
    let below : count < length bytes = omega arith in
    let next : count + 1 ≡ count + 1 = refl in
    record {
      bound = omega arith;
      took = subst (λ row. TakesBytes (spelled_byte c.args.is_hex) c.args.self.now row c.short_byte.new.self) (sym (take-set_at bytes count (count + 1) c.in-Some.byte next below))
          (takes_more_bytes (spelled_byte c.args.is_hex) c.args.self.now c.loop-count.left c.short_byte.new.self (take count bytes) c.in-Some.byte c.loop-count.invariant.took c.in-Some.ensures);
    }
