use Rattle.sqlite.specs.Held.{state}
use Rattle.sqlite.proofs.StateLemmas.{survives_weaker}
use Rattle.kept_ledger.proofs.Made.{makes_book, book_commits}
use Rattle.kept_ledger.proofs.making.make_book.Goals as goal

pub returns-clause-made : goal.returns-clause-made
returns-clause-made g c clean was = makes_book (state g.S.Store c.args.conn.now) (state g.S.Store c.execute.new.self) c.execute.result was (c.execute.ensures.runs clean)

pub returns-clause-crash : goal.returns-clause-crash
returns-clause-crash g c =
    let old = state g.S.Store c.args.conn.now in
    survives_weaker old (state g.S.Store c.execute.new.self) _ _ (λ _ db may was. book_commits old db was may) c.execute.ensures.survives
