-- What is noted of a line: the move of the journal that it asked for, if it was accepted, or else the changes that it recorded.
use Rattle.std.specs.Prelude.{◌≡◌, ℕ, ◌+◌, List, [], ◌∷◌, ◌++◌, length, Option, Some, None, Result, Ok}
use Rattle.journal_model.specs.Book.{PlainBook}
use Rattle.bt_syntax.specs.declared.command.Command.{Command}
use Rattle.bt_syntax.specs.declared.command.Command.TheVariants as c
use Rattle.bt_syntax.specs.declared.fault.SyntaxFault.{SyntaxFault}
use Rattle.bt_syntax.specs.declared.journal.JournalCommand.{JournalCommand}
use Rattle.bt_syntax.specs.declared.journal.JournalCommand.TheVariants as j
use Rattle.console_answer.specs.declared.told.Told.{Told}
use Rattle.console_answer.specs.declared.told.Told.TheVariants as told
use Rattle.kept_event.specs.declared.event.KeptEvent.{KeptEvent}
use Rattle.kept_event.specs.declared.event.KeptEvent.TheVariants as kept
use Rattle.kept_book.specs.Leading.{LeadTo}
use Rattle.kept_book.specs.Noted.{changes_since}

-- ---- a move of the journal
-- the move that a command asks for; a taking out gets its own serial when it is done
abbrev pub move_of : JournalCommand → Option KeptEvent
move_of (j.Mark name) = Some (kept.Marked name)
move_of (j.Undo (Some name)) = Some (kept.UndoneTo name)
move_of (j.Undo None) = Some kept.UndoneLast
move_of j.Redo = Some kept.Redone
move_of j.List = None
move_of (j.Forget name) = Some (kept.Forgot name)
move_of (j.Without serial) = Some (kept.TakenOut serial 0)

-- and that a line does
abbrev pub move_in : Result (Option Command) SyntaxFault → Option KeptEvent
move_in (Ok (Some (c.Journal command))) = move_of command
move_in _ = None

abbrev pub with_own : ℕ → KeptEvent → KeptEvent
with_own own (kept.TakenOut serial other) = kept.TakenOut serial own
with_own own event = event

-- ---- what is noted
-- the changes in force above a serial, which are as many as the serials that were given since
abbrev pub AreChanges : ℕ → PlainBook → List KeptEvent → Type 0
AreChanges since b noted = (noted ≡ changes_since since b) × (since + length noted ≡ b.last_serial)

-- of a line of which this was told, and that asked for this move
abbrev pub IsNoted : Option KeptEvent → Told → ℕ → PlainBook → List KeptEvent → Type 0
IsNoted (Some event) told.Accepted since b noted = noted ≡ with_own b.last_serial event ∷ []
IsNoted _ _ since b noted = AreChanges since b noted

-- events were noted that lead from the first book to the second
abbrev pub LeadsFurther : PlainBook → List KeptEvent → PlainBook → List KeptEvent → Type 0
LeadsFurther b before c after = (noted : List KeptEvent) × (after ≡ before ++ noted) × LeadTo b noted c
