use Rattle.std.proofs.Common.{false, sym, ◌∙◌}
use Rattle.bt_journal.proofs.ServeLemmas.{lookup_faulty}
use Rattle.bt_journal.proofs.book.Book.look_up.Goals as goal

pub returns-in-Some-clause-told : goal.returns-in-Some-clause-told
returns-in-Some-clause-told g c =
    let tells = lookup_faulty c.args.self.now.plain c.args.map c.args.key.now c.attr_told-attr.result c.in-Some.fault c.attr_told-attr.ensures (sym c.lookup_fault.ensures ∙ c.in-Some.is) in
    (false, λ i. (c.args.self.now.plain, tells i))
