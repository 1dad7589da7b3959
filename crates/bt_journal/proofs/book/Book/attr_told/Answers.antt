use Rattle.std.proofs.Common.{◌∙◌, ap}
use Rattle.journal_access.specs.Serving.{attr_reply}
use Rattle.journal_model.specs.Plain.{now}
use Rattle.bt_journal.proofs.ServeLemmas.{attr_is}
use Rattle.bt_journal.proofs.book.Book.attr_told.Goals as goal

pub returns : goal.returns
returns g c = c.new.ensures ∙ ap attr_reply c.attr.ensures ∙ attr_is (now c.args.self.now.plain.line) c.args.map
