use Rattle.std.proofs.Common.{refl}
use Rattle.console_reference.specs.References.{template_named}
use Rattle.bt_console.specs.Commands.{making}
use Rattle.bt_console.proofs.Commanded.{told_of, recorded_found}
use Rattle.bt_console.proofs.command.create.Goals as goal

pub returns : goal.returns
returns g c plain blanks =
    let template = template_named c.args.book.now.plain c.args.inner_map in
    let made = making c.args.path c.args.attr c.args.name in
    recorded_found c.args.book.now.plain c.find_template-template.new.book.plain (made template) c.making.result plain (c.record_if.new.book.plain, c.record_if.result) c.find_template-template.ensures.same
    (told_of made template c.find_template-template.result c.making.result refl c.making.ensures c.find_template-template.ensures.found) (c.record_if.ensures plain blanks)
