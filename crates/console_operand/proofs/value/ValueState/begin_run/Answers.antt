use Rattle.std.proofs.Common.{◌≡◌, ◌<◌, ◌≤◌, ℕ, List, false, length, take, sym, subst, arith, length-take}
use Rattle.console_operand.specs.Automaton.{Takes}
use Rattle.console_operand.specs.ValueSteps.{value_step}
use Rattle.console_operand.specs.declared.data_words.Data.{Data}
use Rattle.console_operand.specs.declared.value.ValueState.TheVariants as v
use Rattle.console_operand.proofs.ValueRead.{value_begun, value_unbegun}
use Rattle.console_operand.proofs.value.ValueState.begin_run.Goals as goal

pub returns-in_ok-of : goal.returns-in_ok-of
returns-in_ok-of c =
    let run = c.short_bytes-count in
    let row : List ℕ = take run.result run.new.bytes in
    let read : Data = record { is_hex = false; bytes = row } in
    let is : c.in_ok-of.field-0 ≡ read = c.in_ok-of.ensures in
    let some : 0 < length row = simp length-take (omega (arith, run.auto.bytes, run.ensures.bound, c.if-count-gt0.true)) in
    let fits : length row ≤ 260 = simp length-take (omega (arith, run.ensures.bound)) in
    subst (λ d. Takes value_step c.args.self.now c.args.unread.now (v.Data d) run.new.self) (sym is)
    (subst (λ s. Takes value_step s c.args.unread.now (v.Data read) run.new.self) (sym c.requires) (value_begun c.args.unread.now run.new.self row run.ensures.taken some fits))

pub returns-else-count-gt0 : goal.returns-else-count-gt0
returns-else-count-gt0 c =
    let run = c.short_bytes-count in
    let row : List ℕ = take run.result run.new.bytes in
    let none : length row ≡ 0 = simp length-take (omega (arith, c.if-count-gt0.false)) in
    value_unbegun c.args.self.now c.args.unread.now run.new.self row run.ensures.taken none
