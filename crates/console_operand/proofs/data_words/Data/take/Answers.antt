use Rattle.std.proofs.Common.{ℕ, ◌+◌, ◌≤◌, List, length, take, sym, subst, arith, length-take}
use Rattle.std.proofs.lemmas.Result.{IfOk-weaker}
use Rattle.console_operand.specs.Automaton.{Takes}
use Rattle.console_operand.specs.DataSteps.{data_step}
use Rattle.console_operand.specs.declared.data_words.Data.{Data}
use Rattle.console_operand.proofs.DataRead.{bytes_taken}
use Rattle.console_operand.proofs.data_words.Data.take.Goals as goal

pub returns : goal.returns
returns c =
    let d : Data = c.args.self.now in
    let run = c.short_bytes-count in
    let bytes : List ℕ = take run.result run.new.bytes in
    let short : length bytes ≤ run.result = simp length-take (omega arith) in
    let room : length d.bytes + length bytes ≤ 260 = omega (arith, short, run.ensures.bound, c.min-room.ensures, c.len.ensures.count, c.len.ensures.bound) in
    IfOk-weaker c.extend.result _ _
    (λ _ is. subst (λ all. Takes data_step d c.args.unread.now (record d { bytes = all }) run.new.self) (sym is) (bytes_taken d c.args.unread.now run.new.self bytes run.ensures.taken room)) c.extend.ensures
