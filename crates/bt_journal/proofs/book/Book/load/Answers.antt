use Rattle.std.proofs.Common.{refl, sym, ◌∙◌}
use Rattle.bt_journal.proofs.ServeLemmas.{load_faulty, load_so}
use Rattle.bt_journal.proofs.book.Book.load.Goals as goal

pub returns-in-Some-clause-told : goal.returns-in-Some-clause-told
returns-in-Some-clause-told g c =
    load_faulty c.args.self.now.plain c.args.map c.args.key.now c.args.offset c.args.size c.attr_told-attr.result c.in-Some.fault c.attr_told-attr.ensures (sym c.load_fault.ensures ∙ c.in-Some.is)

pub returns-clause-told : goal.returns-clause-told
returns-clause-told g c =
    load_so c.args.self.now.plain c.args.self.now.plain c.args.map c.args.key.now c.args.offset c.args.size c.attr_told-attr.result c.in_ok-found.found c.load_read.result
    refl c.attr_told-attr.ensures (sym c.load_fault.ensures ∙ c.in_default.is) c.in_ok-found.ensures.found c.load_read.ensures
