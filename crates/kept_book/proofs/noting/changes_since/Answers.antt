use Rattle.std.proofs.Common.{Some, None, sym, ◌∙◌, arith, append-nil}
use Rattle.kept_book.proofs.NewestLemmas.{more_noted, all_noted}
use Rattle.kept_book.proofs.noting.changes_since.Goals as goal

pub serials-preserved-in-Continue-branch-3 : goal.serials-preserved-in-Continue-branch-3
serials-preserved-in-Continue-branch-3 g c =
    more_noted c.args.book.now.plain c.is_well.ensures c.serials.above (Some c.in-Some.change) c.serials.events.items c.push.new.self.items (sym c.in-Some.is ∙ c.in_ok-change.ensures) c.in_ok-push-in-Some.ensures.items
    ∙ c.serials.invariant

pub serials-preserved : goal.serials-preserved
serials-preserved g c =
    more_noted c.args.book.now.plain c.is_well.ensures c.serials.above None c.serials.events.items c.serials.events.items (sym c.in-None.is ∙ c.in_ok-change.ensures) (sym (append-nil c.serials.events.items))
    ∙ c.serials.invariant

pub returns : goal.returns
returns g c =
    all_noted c.args.book.now.plain c.is_well.ensures c.serials.above c.serials.events.items (omega (arith, c.serials-test.false, c.last_serial-last.ensures))
    ∙ c.serials.invariant
