use Rattle.std.proofs.Common.{subst, sym, Some}
use Rattle.console_map_syntax.specs.declared.command.MapCommand.TheVariants.{Create}
use Rattle.console_reference.specs.References.{template_named, ToldUnlessRefused}
use Rattle.bt_console.specs.Commands.{map_done, DoneUnlessRefused}
use Rattle.bt_console.specs.Supply.{unmade}
use Rattle.bt_console.proofs.Large.{refused_large}
use Rattle.bt_console.proofs.command.refuse_large.Goals as goal

pub returns-in-Ok : goal.returns-in-Ok
returns-in-Ok g c path =
    let b = c.args.book.now.plain in
    let done = map_done b (Create path c.args.attr c.args.name c.args.inner_map) (Some (unmade c.args.attr c.args.charge)) in
    subst (λ answer. DoneUnlessRefused b done (c.find_template.new.book.plain, answer)) (sym c.of_change.ensures)
    (refused_large path c.args.attr c.args.name c.args.inner_map c.args.charge b c.find_template.new.book.plain c.in-Ok.field-0 c.refusal_of_large.result c.find_template.ensures.same
    (subst (ToldUnlessRefused (template_named b c.args.inner_map)) c.in-Ok.is c.find_template.ensures.found) (c.refusal_of_large.ensures 0 0 path c.in-Ok.field-0))
