use Rattle.sqlite.specs.Held.{state}
use Rattle.kept_lines.proofs.Beginning.{not_opened, opened_begins, opened_entries}
use Rattle.kept_lines.proofs.begun.open.Goals as goal

pub returns-in-Ok-clause-begins : goal.returns-in-Ok-clause-begins
returns-in-Ok-clause-begins g c terms =
    opened_begins terms (state g.D.Store c.args.conn.now) (state g.D.Store c.open_book.new.conn) c.requires c.open_book.ensures.crash c.in-Ok.book
    (λ clean t b keeps. c.in-Ok.ensures.kept clean t b keeps)
    (λ clean t events ledger. c.in-Ok.ensures.same clean t events ledger)
    (λ t b is_open keeps. c.what_is_kept_is_on_the_disk.ensures c.args.conn.now t b is_open keeps)

pub returns-in-Err-clause-begins : goal.returns-in-Err-clause-begins
returns-in-Err-clause-begins g c terms = (
  not_opened terms (state g.D.Store c.args.conn.now) (state g.D.Store c.open_book.new.conn) c.requires c.open_book.ensures.crash,
  λ clean t events ledger. c.in-Err.ensures.opened clean t events ledger,
)

pub returns-in-Ok-clause-entries : goal.returns-in-Ok-clause-entries
returns-in-Ok-clause-entries g c terms =
    opened_entries terms (state g.D.Store c.args.conn.now) (state g.D.Store c.open_book.new.conn) c.requires c.open_book.ensures.crash (λ clean t es was. c.in-Ok.ensures.times clean t es was)
