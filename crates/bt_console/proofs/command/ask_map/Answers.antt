use Rattle.std.proofs.Common.{false, ◌∙◌, ap}
use Rattle.journal_model.specs.Book.{asked}
use Rattle.console_reference.specs.References.{map_named}
use Rattle.bt_console.specs.Commands.{told_at, inquiry_answer}
use Rattle.bt_console.proofs.Commanded.{done_found}
use Rattle.bt_console.proofs.command.ask_map.Goals as goal

pub returns-in-Ok-ask-clause-told : goal.returns-in-Ok-ask-clause-told
returns-in-Ok-ask-clause-told g c =
    let b = c.args.book.now.plain in
    let mid = c.find_map.new.book.plain in
    done_found (λ book named. (book, told_at book named c.args.inquiry)) b mid (map_named b c.args.map) c.in-Ok.map (c.ask.new.self.plain, c.inquiry_answer.result) c.find_map.ensures.same c.in-Ok.ensures.found
    (false, λ i. (c.ask.ensures.same i, (c.inquiry_answer.ensures ∙ ap (inquiry_answer c.args.inquiry) (c.in-Ok-ask.ensures.answer ∙ ap (asked mid) c.question_of.ensures)) i))
