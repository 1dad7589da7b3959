use Rattle.std.proofs.Common.{◌∙◌, sym}
use Rattle.bt_console.specs.Frames.{console_of}
use Rattle.bt_console.proofs.Supplying.{ran_without, ran_with, ran_at_end, ran_no_memory, ran_too_large}
use Rattle.bt_console.proofs.line.run_supplied.Goals as goal

pub returns-in_default : goal.returns-in_default
returns-in_default g c =
    ran_without g.S.Supply.gives g.K.MapKind.seen (console_of c.args.book.now.plain c.args.runs.now) c.args.supply.now c.args.supply.now c.args.command
    (console_of c.run_command.new.book.plain c.run_command.new.runs, c.run_command.result) (sym c.made_by.ensures.made ∙ c.in_default.is) c.run_command.ensures.goes

pub returns-in-Ok : goal.returns-in-Ok
returns-in-Ok g c =
    ran_with g.S.Supply.gives g.K.MapKind.seen (console_of c.args.book.now.plain c.args.runs.now) c.args.supply.now c.supply.new.self c.args.command c.in-Some.attr c.in-Ok.kind
    (console_of c.run_command-in-Ok.new.book.plain c.run_command-in-Ok.new.runs, c.run_command-in-Ok.result) (sym c.made_by.ensures.made ∙ c.in-Some.is) c.in-Ok.ensures.gives c.run_command-in-Ok.ensures.goes

pub returns-in-Err-AtEnd : goal.returns-in-Err-AtEnd
returns-in-Err-AtEnd g c =
    ran_at_end g.S.Supply.gives g.K.MapKind.seen (console_of c.args.book.now.plain c.args.runs.now) c.args.supply.now c.supply.new.self c.args.command c.in-Some.attr
    (console_of c.run_command-in-Err-AtEnd.new.book.plain c.run_command-in-Err-AtEnd.new.runs, c.run_command-in-Err-AtEnd.result) (sym c.made_by.ensures.made ∙ c.in-Some.is)
    (rw c.in-Err-AtEnd.field-0-is at c.in-Err-AtEnd.ensures.gives) c.run_command-in-Err-AtEnd.ensures.goes

pub returns-in-Err-NoMemory : goal.returns-in-Err-NoMemory
returns-in-Err-NoMemory g c =
    ran_no_memory g.S.Supply.gives g.K.MapKind.seen (console_of c.args.book.now.plain c.args.runs.now) c.args.supply.now c.supply.new.self c.args.command c.in-Some.attr (sym c.made_by.ensures.made ∙ c.in-Some.is)
    (rw c.in-Err-NoMemory.field-0-is at c.in-Err-NoMemory.ensures.gives)

pub returns-in-Err-TooLarge : goal.returns-in-Err-TooLarge
returns-in-Err-TooLarge g c =
    ran_too_large g.S.Supply.gives g.K.MapKind.seen (console_of c.args.book.now.plain c.args.runs.now) c.args.supply.now c.supply.new.self c.args.command c.in-Some.attr c.in-Err-TooLarge.charge
    (console_of c.refuse_unmade.new.book.plain c.args.runs.now, c.refuse_unmade.result) (sym c.made_by.ensures.made ∙ c.in-Some.is)
    (rw c.in-Err-TooLarge.field-0-is at c.in-Err-TooLarge.ensures.gives) c.refuse_unmade.ensures
