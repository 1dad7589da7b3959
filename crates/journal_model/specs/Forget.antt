-- Giving up the past before a mark: its state becomes the base.
use Rattle.std.specs.Prelude.{ℕ, ◌+◌, if◌then◌else◌, List, Result, Ok, Err, Option, Some, None}
use Rattle.journal_model.specs.declared.faults.ForgetFault.{ForgetFault}
use Rattle.journal_model.specs.declared.faults.ForgetFault.TheVariants.{NoMark, MarkForgotten, StillTakenOut}
use Rattle.journal_model.specs.Marks.{moments_at, marks_from, is_among_names}
use Rattle.journal_model.specs.Rebase.{advanced, still_taken_out}
use Rattle.journal_model.specs.Book.{PlainBook}

-- the state after so many moments is the base, and the marks before it are gone
abbrev pub based_at : PlainBook → ℕ → PlainBook
based_at b count = record b { line = advanced count b.line; gone = b.gone + count; marks = marks_from count b.marks }

-- why the past before a mark of the name is not given up, if none stands
abbrev pub forget_fault : PlainBook → List ℕ → ForgetFault
forget_fault b name = if is_among_names name b.forgotten_marks then MarkForgotten else NoMark

abbrev pub forgotten_unless : Option ℕ → PlainBook → ℕ → PlainBook × Result (Unit {0}) ForgetFault
forgotten_unless (Some serial) b count = (b, Err (StillTakenOut serial))
forgotten_unless None b count = (based_at b count, Ok tt)

abbrev pub forgotten_from : PlainBook → List ℕ → Option ℕ → PlainBook × Result (Unit {0}) ForgetFault
forgotten_from b name None = (b, Err (forget_fault b name))
forgotten_from b name (Some count) = forgotten_unless (still_taken_out count b.line) b count

-- the past before a mark is given up, unless a later taking out keeps a change of it
abbrev pub forgotten : PlainBook → List ℕ → PlainBook × Result (Unit {0}) ForgetFault
forgotten b name = forgotten_from b name (moments_at name b.marks)
