use Rattle.std.proofs.Common.{◌≤◌, length, sym, ◌∙◌, subst}
use Rattle.journal_invariant.proofs.Staying.{low_mark}
use Rattle.bt_journal.specs.BookView.{BookView}
use Rattle.bt_journal.proofs.book.Book.forget.Goals as goal

pub forget_first-requires-after_bounds : goal.forget_first-requires-after_bounds
forget_first-requires-after_bounds g c κs within =
    let b = c.self.inside in
    subst (λ (v : BookView). c.in-Some.count ≤ length v.plain.line.moments) c.self.view_is
    (low_mark c.args.name.now (length b.line.pasts.moments) c.in-Some.count b.marks.standing c.self.invariant.2.marks (sym c.find.ensures ∙ c.in-Some.is))
