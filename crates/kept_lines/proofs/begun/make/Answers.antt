use Rattle.std.proofs.Common.{refl}
use Rattle.sqlite.specs.Held.{state}
use Rattle.kept_file.specs.Keeps.{start_of}
use Rattle.kept_lines.proofs.Beginning.{not_made, made_begins, made_not, made_entries}
use Rattle.kept_lines.proofs.begun.make.Goals as goal

pub returns-in-Ok-new_book-clause-begins : goal.returns-in-Ok-new_book-clause-begins
returns-in-Ok-new_book-clause-begins g c =
    made_begins c.args.terms (state g.D.Store c.args.conn.now) (state g.D.Store c.keep_first.new.conn) c.requires.unmade _ (c.in-Ok.ensures.makes (start_of c.args.terms) refl) c.in-Ok-new_book.book c.in-Ok-new_book.ensures.begun

pub returns-in-Err-new_book-clause-begins : goal.returns-in-Err-new_book-clause-begins
returns-in-Err-new_book-clause-begins g c =
    made_not c.args.terms (state g.D.Store c.args.conn.now) (state g.D.Store c.keep_first.new.conn) c.requires.unmade _ (c.in-Ok.ensures.makes (start_of c.args.terms) refl) c.in-Err-new_book.fault c.in-Err-new_book.ensures.why

pub returns-in-Err-clause-begins : goal.returns-in-Err-clause-begins
returns-in-Err-clause-begins g c = not_made c.args.terms (state g.D.Store c.args.conn.now) (state g.D.Store c.keep_first.new.conn) c.requires.unmade (c.in-Err.ensures.makes (start_of c.args.terms) refl).crash

pub returns-in-Ok-new_book-clause-entries : goal.returns-in-Ok-new_book-clause-entries
returns-in-Ok-new_book-clause-entries g c =
    made_entries c.args.terms (state g.D.Store c.args.conn.now) (state g.D.Store c.keep_first.new.conn) c.requires.unmade c.in-Ok.ensures.times
