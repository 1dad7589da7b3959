use Rattle.std.proofs.Common.{false, None, refl, sym, ap, subst}
use Rattle.console_operand.specs.declared.object.Object.TheVariants as object
use Rattle.bt_syntax.specs.declared.prog.command.ProgCommand.TheVariants as p
use Rattle.console_reference.specs.Programs.{Judges, live_maps}
use Rattle.bt_console.specs.Commands.{ProgGoes}
use Rattle.bt_console.proofs.Commanded.{prog_of, load_goes}
use Rattle.bt_console.proofs.prog.load.Goals as goal

pub returns-in-File : goal.returns-in-File
returns-in-File g c =
    prog_of c.args.book.now.plain (p.Load c.args.object c.args.path) (p.Load (object.File c.in-File.field-0) c.args.path) _ (ap (λ it. p.Load it c.args.path) c.in-File.is) tt (false, refl)

pub returns : goal.returns
returns g c =
    let b = c.args.book.now.plain in
    subst (λ it. ProgGoes b (p.Load it c.args.path) (c.record_if.new.book.plain, c.record_if.result)) (sym c.in-Hex.is)
    (load_goes b c.find_code-verdict.new.book.plain c.in-Hex.bytes c.args.path c.find_code-verdict.result c.loading.result (c.record_if.new.book.plain, c.record_if.result) c.find_code-verdict.ensures.same
    (subst (λ bytes. Judges (live_maps b) bytes c.find_code-verdict.result) c.as_slice.ensures.value c.find_code-verdict.ensures.verdict) (c.loading.ensures c.in-Hex.bytes) (c.record_if.ensures None tt))
