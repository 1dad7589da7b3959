use Rattle.std.proofs.Common.{◌∙◌, ap}
use Rattle.bt_syntax.specs.declared.command.Command.TheVariants.{Map}
use Rattle.bt_console.specs.Frames.{console_of}
use Rattle.bt_console.proofs.Large.{large_goes}
use Rattle.bt_console.proofs.line.refuse_unmade.Goals as goal

pub returns : goal.returns
returns g c =
    large_goes c.in-Create._path c.args.attr c.in-Create.name c.in-Create.inner_map c.args.charge (console_of c.args.book.now.plain c.args.runs.now) c.args.command c.in-Create._own (c.refuse_large.new.book.plain, c.refuse_large.result)
    (c.in-Map.is ∙ ap Map c.in-Create.is) c.requires.makes (c.refuse_large.ensures c.in-Create._path)
