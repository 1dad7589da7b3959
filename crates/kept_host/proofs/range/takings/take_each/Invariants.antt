use Rattle.std.proofs.Common.{◌≡◌, ℕ, false, List, [], ◌++◌, length}
use Rattle.journal_model.specs.Book.{PlainBook}
use Rattle.console_answer.specs.declared.fault.Fault.{Fault}
use Rattle.kept_lines.specs.Noting.{LeadsFurther}
use Rattle.kept_host.specs.Taking.{AllTaken, OneRefused}
use Rattle.kept_host.proofs.range.takings.take_each.Given as goal

abbrev pub invariant-serials : goal.invariant-serials
invariant-serials g l = record {
  taken : (c : PlainBook) (text : List ℕ) → AllTaken l.rest l.book.plain c text → AllTaken l.fn.serials l.fn.book.plain c (l.held.text.items ++ text);
  refused : (fault : Fault) → OneRefused l.rest l.book.plain fault → OneRefused l.fn.serials l.fn.book.plain fault;
  leads : LeadsFurther l.fn.book.plain [] l.book.plain l.held.events.items;
  same : l.changed ≡ false → l.book.plain ≡ l.fn.book.plain;
}

abbrev pub decreases-serials : goal.decreases-serials
decreases-serials g l = length l.rest
