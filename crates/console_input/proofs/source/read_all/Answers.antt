use Rattle.std.proofs.Common.{rules, ◌≡◌, [], ◌++◌, sym, ◌∙◌, subst, arith}
use Rattle.std.specs.Prelude.{◌≢◌, take, IfSome}
use Rattle.std.specs.IoError.{error_kind}
use Rattle.std.specs.declared.io.ErrorKind.TheVariants.{OutOfMemory}
use Rattle.console_input.specs.declared.fault.Cause.TheVariants.{TooLong}
use Rattle.console_input.specs.declared.fault.ReadFault.TheVariants.{Unread}
use Rattle.std.specs.Option.{option_map}
use Rattle.console_input.proofs.Whole.{whole_if_known, longer_if_known, never_both, not_failed}
use Rattle.console_input.proofs.source.read_all.Goals as goal

pub returns-then-len-most-clause-whole : goal.returns-then-len-most-clause-whole
returns-then-len-most-clause-whole g c =
    let empty : c.new-bytes.result.items ≡ [] = search rules in
    let bytes = c.read_to_end.new.buf.items in
    whole_if_known c.args.most c.take-front.result.limit c.new-bytes.result.items bytes (g.R.Read.remaining c.args.reader) c.take-front.ensures.limit empty
    (subst (λ reader. IfSome (option_map (take c.take-front.result.limit) (g.R.Read.remaining reader)) (λ front. bytes ≡ c.new-bytes.result.items ++ front)) c.take-front.ensures.inner c.in-Ok.ensures.bytes)
    (omega (arith, c.if-len-most.true, c.len.ensures))

pub returns-else-len-most-clause-longer : goal.returns-else-len-most-clause-longer
returns-else-len-most-clause-longer g c limit is =
    let empty : c.new-bytes.result.items ≡ [] = search rules in
    let bytes = c.read_to_end.new.buf.items in (
      cc,
      longer_if_known c.args.most c.take-front.result.limit c.new-bytes.result.items bytes (g.R.Read.remaining c.args.reader) c.take-front.ensures.limit empty
          (subst (λ reader. IfSome (option_map (take c.take-front.result.limit) (g.R.Read.remaining reader)) (λ front. bytes ≡ c.new-bytes.result.items ++ front)) c.take-front.ensures.inner c.in-Ok.ensures.bytes)
          (omega (arith, c.if-len-most.false, c.len.ensures)),
    )

pub returns-in-Err-clause-longer : goal.returns-in-Err-clause-longer
returns-in-Err-clause-longer g c limit is =
    let told : c.read_fault.result ≡ Unread (TooLong limit) = cc in
    let other : error_kind c.in-Err.error ≢ OutOfMemory = λ memory. never_both _ (sym (c.read_fault.ensures.memory.1 memory) ∙ told) in
    absurd (not_failed _ limit (sym (c.read_fault.ensures.other other) ∙ told))
