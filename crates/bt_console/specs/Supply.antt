-- What a supplier of boxes does at a line: it is asked once if that is read as a `map create` of good attributes, and
-- otherwise not.
use Rattle.std.specs.Prelude.{◌≡◌, ◌⊎◌, ℕ, true, List, Option, Some, None, Result, Ok, Err}
use Rattle.bt_mapkind.specs.declared.attr.MapAttr.{MapAttr}
use Rattle.bt_mapkind.specs.Seen.{Seen}
use Rattle.journal_model.specs.Blank.{Blank}
use Rattle.bt_syntax.specs.Needs.{made_by, need_of}
use Rattle.bt_syntax.specs.declared.command.Command.{Command}
use Rattle.bt_syntax.specs.declared.files.FileText.{FileText}
use Rattle.console_answer.specs.declared.answer.Answer.{Answer}
use Rattle.bt_console.specs.declared.supply.NoBox.{NoBox}
use Rattle.bt_console.specs.declared.supply.NoBox.TheVariants.{AtEnd, NoMemory, TooLarge}
use Rattle.bt_console.specs.BlankOf.{blank_of}
use Rattle.bt_console.specs.Commands.{Course, IsRight, command_done, unless_refused, UnlessRefused}
use Rattle.bt_console.specs.Frames.{Console}
use Rattle.bt_console.specs.Lines.{IsRightLine, line_done}

-- ---- one line
-- it was not asked: no box, and it stays as it was
pub record IsNotAsked {S : Type 0} (from : S) (blank : Option Blank) (to : S) : Type 0 where
  pub none : blank ≡ None
  pub same : to ≡ from

-- the blank of a box that was not made: it would be new, and have this charge
abbrev pub unmade : MapAttr → ℕ → Blank
unmade attr charge = record { make = record { attr = attr; charge = charge }; fresh = true }

-- what a line gets of what was told: the box that was given, or none; if the box would be too large, the line goes as it
-- would with it; if memory was refused to the making of a box, the line is refused for lack of memory
abbrev pub GetsBox : {K : Type 0} → (K → Seen) → MapAttr → Result K NoBox → Course → Option Blank → Type 0
GetsBox seen attr (Ok box) course blank = blank ≡ Some (blank_of (seen box))
GetsBox seen attr (Err AtEnd) course blank = blank ≡ None
GetsBox seen attr (Err (TooLarge charge)) course blank = blank ≡ Some (unmade attr charge)
GetsBox seen attr (Err NoMemory) course blank = course.refused ≡ true

-- it was asked once
pub record IsAsked {S K : Type 0} (gives : S → MapAttr → Result K NoBox → S → Type 0) (seen : K → Seen) (from : S) (attr : MapAttr) (course : Course) (blank : Option Blank) (to : S) : Type 0 where
  pub told : Result K NoBox
  pub given : gives from attr told to
  pub gets : GetsBox seen attr told course blank

-- at a command it is asked if that makes a map
abbrev pub IsSupplied : {S K : Type 0} → (S → MapAttr → Result K NoBox → S → Type 0) → (K → Seen) → S → Option MapAttr → Course → Option Blank → S → Type 0
IsSupplied gives seen from None course blank to = IsNotAsked from blank to
IsSupplied gives seen from (Some attr) course blank to = IsAsked gives seen from attr course blank to

-- at a line to whose reading memory was refused it is not asked
pub record IsUnread {S : Type 0} (from : S) (course : Course) (blank : Option Blank) (to : S) : Type 0 where
  pub refused : course.refused ≡ true
  pub box : IsNotAsked from blank to

abbrev pub LineIsSupplied : {S K : Type 0} → (S → MapAttr → Result K NoBox → S → Type 0) → (K → Seen) → S → Option MapAttr → Course → Option Blank → S → Type 0
LineIsSupplied gives seen from need course blank to = IsSupplied gives seen from need course blank to ⊎ IsUnread from course blank to

-- ---- how a command or a line went
-- a command went some way that is right, with what it got of the supplier, and this was made
pub record CommandRuns {S K : Type 0} (gives : S → MapAttr → Result K NoBox → S → Type 0) (seen : K → Seen) (c : Console) (from : S) (command : Command) (made : Console × Answer) (to : S) : Type 0 where
  pub course : Course
  pub blank : Option Blank
  pub holds : UnlessRefused course.refused (IsRight c.book course command)
  pub is : made ≡ unless_refused course.refused c (command_done c course command blank)
  pub box : IsSupplied gives seen from (made_by command) course blank to

-- a line did
pub record LineRuns {S K : Type 0} (gives : S → MapAttr → Result K NoBox → S → Type 0) (seen : K → Seen) (files : List FileText) (c : Console) (from : S) (line : List ℕ) (made : Console × Option Answer) (to : S) : Type 0 where
  pub course : Course
  pub blank : Option Blank
  pub holds : IsRightLine files c.book course line
  pub is : made ≡ line_done files course c blank line
  pub box : LineIsSupplied gives seen from (need_of line) course blank to
