-- A dialogue on a kept book: what it writes, and what is then on the disk.
use Rattle.std.specs.Prelude.{◌≡◌, ◌⊎◌, ⊤, ℕ, List, ◌∷◌, Option, Some, None, Result, Ok, Err}
use Rattle.sqlite.specs.State.{State, HasCleanDisk}
use Rattle.sqlite.specs.Files.{file_state}
use Rattle.sqlite.specs.declared.error.Error.{Error}
use Rattle.journal_model.specs.Book.{PlainBook}
use Rattle.console_operand.specs.Line.{lines_of}
use Rattle.console_operand.specs.Word.{words}
use Rattle.console_answer.specs.declared.fault.Fault.{Fault}
use Rattle.console_text.specs.Text.{fault_text}
use Rattle.bt_syntax.specs.declared.files.FileText.{FileText}
use Rattle.console_input.specs.Named.{AreFilesOf}
use Rattle.console_input.specs.declared.fault.ReadFault.{ReadFault}
use Rattle.console_input.specs.declared.source.TheConstants.{MOST_SCRIPT}
use Rattle.console_script.specs.Frames.{console_of}
use Rattle.console_script.specs.Tallies.{both_counts}
use Rattle.console_script.specs.Transcript.{Step}
use Rattle.console_script.specs.declared.summary.Summary.{Summary}
use Rattle.console_script.specs.Made.{AllGetNew}
use Rattle.console_talk.specs.declared.manner.Manner.TheVariants.{Dialogue}
use Rattle.console_looks.specs.declared.look.Look.{Look}
use Rattle.console_talk.specs.Talk.{Said, Standing, standing, Place, place, silent, before, looks, GoesAt, HasComeTo, MayStop, TookAtMost, with_boxes}
use Rattle.kept_ledger.specs.TermsView.{PlainTerms}
use Rattle.kept_ledger.specs.Ledger.{LeavesOnly}
use Rattle.kept_file.specs.Keeps.{HoldsOne}
use Rattle.kept_lines.specs.Kept.{IsOnDisk, WritesSome, IsFront}
use Rattle.kept_lines.specs.Chosen.{chosen}
use Rattle.kept_lines.specs.RangeGrammar.{range_in}
use Rattle.kept_lines.specs.declared.range.SerialRange.{SerialRange}
use Rattle.kept_lines.specs.Begun.{WasReady, HasBook, IsNotRun, IsNotOpened}
use Rattle.kept_host.specs.Looks.{LooksFront}
use Rattle.kept_host.specs.Taking.{AllTaken, IsNone, ComesTo, UnlessAll, counts_taken}
use Rattle.kept_host.specs.declared.range.fault.RangeFault.{RangeFault}
use Rattle.kept_host.specs.declared.range.fault.RangeFault.TheVariants as taking
use Rattle.kept_host.specs.declared.range.taken.Taken.{Taken}
use Rattle.kept_host.specs.declared.fault.Broken.{Broken}
use Rattle.kept_host.specs.declared.fault.Broken.TheVariants as broken
use Rattle.kept_lines.specs.declared.databases.Database.{Database}
use Rattle.kept_lines.specs.declared.fault.InFileFault.TheVariants.{Unopened, Kept}
use Rattle.kept_lines.specs.declared.fault.KeptFault.TheVariants.{Open, Make, Lines}
use Rattle.kept_host.specs.declared.fault.TalkFault.{TalkFault}
use Rattle.kept_host.specs.declared.fault.TalkFault.TheVariants.{InFile, Unread}

-- ---- a range in a dialogue
-- its changes were taken out, or none of them; the book is then as before, if this holds of the disk
pub record TookRange {S : Type 0} (Holds : Type 0) (range : SerialRange) (from to : Place S) : Type 0 where
  pub taken : Taken
  pub book : PlainBook
  pub comes : ComesTo range from.at.console.book book from.text to.text taken
  pub same : Holds → UnlessAll taken (book ≡ from.at.console.book)
  pub boxes : to.boxes ≡ from.boxes
  pub is : to.at ≡ standing (console_of book from.at.console.runs) (both_counts from.at.summary (counts_taken taken))

-- the disk is clean to the end, and at first it had this book
abbrev pub StaysOnDisk : State → State → PlainBook → Type 0
StaysOnDisk old new b = HasCleanDisk new × ((t : PlainTerms) × IsOnDisk t old b)

-- ---- the lines of a dialogue, by what holds of the disk
module _ {S : Type 0} (supplied : S → List Step → S → Type 0) (named : List ℕ → List FileText → Type 0) (Holds : Type 0) where
  -- a line that spells a range takes its changes out, and any other goes as in each dialogue
  abbrev pub GoesBy : Option SerialRange → Said → Place S → Place S → Type 0
  GoesBy (Some range) it from to = TookRange Holds range from to
  GoesBy None it from to = GoesAt supplied named Dialogue it from to

  abbrev pub GoesKept : Said → Place S → Place S → Type 0
  GoesKept it from to = GoesBy (range_in (words it.line)) it from to

  -- up to here, lines of an input were given and went so, and none of them ended the dialogue
  abbrev pub HasComeKept : Option (List ℕ) → Place S → Option (List ℕ) → Place S → Type 0
  HasComeKept input from left to = HasComeTo GoesKept Dialogue input from left to

  -- each line of an input went so, up to its end or to a line that ends the dialogue
  pub record TalkedThrough (input : Option (List ℕ)) (from : Place S) (book : PlainBook) (boxes : S) (text : Option (List ℕ)) (summary : Summary) : Type 0 where
    pub unsaid : Option (List ℕ)
    pub end : Standing
    pub came : HasComeKept input from unsaid (place boxes end text)
    pub stops : MayStop Dialogue unsaid
    pub took : TookAtMost MOST_SCRIPT input unsaid
    pub left : book ≡ end.console.book
    pub counts : summary ≡ end.summary

-- ---- a dialogue that did not come to its end
-- the book after the first steps of a line, with each one whose answer was written
pub record IsBegunLine (named : List ℕ → List FileText → Type 0) (at : Standing) (line : List ℕ) (old new : Option (List ℕ)) (left : PlainBook) : Type 0 where
  pub files : List FileText
  pub are : named line files
  pub front : IsFront files (before at line) old new left

-- the book at which a line looks, and of what that writes a front was written
pub record IsBegunLook (at : Standing) (line : List ℕ) (old new : Option (List ℕ)) (left : PlainBook) : Type 0 where
  pub look : Look
  pub looks_so : looks Dialogue line ≡ Some look
  pub front : LooksFront look at.console.book old new
  pub stays : left ≡ at.console.book

-- the book without the changes of a range, or as before if none is taken out; and of what is answered a front was written, or all
abbrev pub IsRangeFront : SerialRange → PlainBook → Option (List ℕ) → Option (List ℕ) → PlainBook → Type 0
IsRangeFront range b old new left = ((text : List ℕ) × AllTaken (chosen range b) b left text × WritesSome old new text) ⊎ ((left ≡ b) × ((fault : Fault) × IsNone range b fault × WritesSome old new (fault_text fault)))

-- one of these, or the book before, and nothing was written
abbrev pub IsRangePart : SerialRange → PlainBook → Option (List ℕ) → Option (List ℕ) → PlainBook → Type 0
IsRangePart range b old new left = ((left ≡ b) × (new ≡ old)) ⊎ IsRangeFront range b old new left

pub record IsBegunRange (at : Standing) (line : List ℕ) (old new : Option (List ℕ)) (left : PlainBook) : Type 0 where
  pub range : SerialRange
  pub spells : range_in (words line) ≡ Some range
  pub front : IsRangeFront range at.console.book old new left

abbrev pub IsBegun : (List ℕ → List FileText → Type 0) → Standing → List ℕ → Option (List ℕ) → Option (List ℕ) → PlainBook → Type 0
IsBegun named at line old new left = IsBegunRange at line old new left ⊎ (IsBegunLook at line old new left ⊎ IsBegunLine named at line old new left)

-- one of these, or the book before the line, and nothing was written
abbrev pub IsPart : (List ℕ → List FileText → Type 0) → Standing → List ℕ → Option (List ℕ) → Option (List ℕ) → PlainBook → Type 0
IsPart named at line old new left = ((left ≡ at.console.book) × (new ≡ old)) ⊎ IsBegun named at line old new left

-- of what is left of an input, if its bytes are known, this is the next line
abbrev pub IsNext : Option (List ℕ) → List ℕ → Type 0
IsNext None line = ⊤
IsNext (Some text) line = (lines : List (List ℕ)) × (lines_of text ≡ line ∷ lines)

-- the book after the first lines of an input, each of which was answered; and maybe after the first steps of the next line, with each
-- one whose answer was written, or with a front of what that line looks at
pub record IsTalkFront {S : Type 0} (supplied : S → List Step → S → Type 0) (named : List ℕ → List FileText → Type 0) (input : Option (List ℕ)) (from : Place S) (new : Option (List ℕ)) (left : PlainBook) : Type 0 where
  pub unsaid : Option (List ℕ)
  pub to : Place S
  pub came : HasComeKept supplied named ⊤ input from unsaid to
  pub further : ((left ≡ to.at.console.book) × (new ≡ to.text)) ⊎ ((line : List ℕ) × IsNext unsaid line × IsBegun named to.at line to.text new left)

-- ---- on the book of a database, with a new map for each that the lines make
module _ (terms : PlainTerms) (may_read : List ℕ → ℕ → Result (List ℕ) ReadFault → Type 0) (input : Option (List ℕ)) (old new : State) (out_old out_new : Option (List ℕ)) where
  -- the disk is clean to the end, and the database has a book
  abbrev pub StaysKept : Type 0
  StaysKept = HasCleanDisk new × (WasReady old × ((t : PlainTerms) × ((b : PlainBook) × HasBook terms t old b)))

  -- the lines were answered up to the end of the input or to a `quit`; the book that they led to is on the disk
  pub record TalkedKept (summary : Summary) : Type 0 where
    pub book : PlainBook
    pub left : PlainBook
    pub talked : TalkedThrough (with_boxes AllGetNew) (AreFilesOf may_read) StaysKept input (place tt (silent book) out_old) left tt out_new summary
    pub kept : HasCleanDisk new → WasReady old → (t : PlainTerms) (b : PlainBook) → HasBook terms t old b → (book ≡ b) × IsOnDisk t new left

  -- the dialogue stopped: each crash leaves a database of the book after a front of its lines, with each one that was answered
  pub record TalkStops : Type 0 where
    pub book : PlainBook
    pub leaves : HasCleanDisk new → WasReady old → (t : PlainTerms) (b : PlainBook) → HasBook terms t old b
        → (book ≡ b) × LeavesOnly (HoldsOne t (IsTalkFront (with_boxes AllGetNew) (AreFilesOf may_read) input (place tt (silent book) out_old) out_new)) new

  -- a book is opened before the first line, and again after a range that is refused
  abbrev pub TalksKept : Result Summary TalkFault → Type 0
  TalksKept (Ok summary) = TalkedKept summary
  TalksKept (Err (InFile (Unopened error))) = ⊥
  TalksKept (Err (InFile (Kept (Open why)))) = IsNotOpened terms old new out_old out_new why ⊎ TalkStops
  TalksKept (Err (InFile (Kept (Make error)))) = IsNotRun terms old new out_old out_new
  TalksKept (Err (InFile (Kept (Lines why)))) = TalkStops
  TalksKept (Err (Unread why)) = TalkStops

-- why a range was not answered, and why a dialogue was not ended whose book was begun
abbrev pub of_range : RangeFault → Broken
of_range (taking.Lines why) = broken.Lines why
of_range (taking.Open why) = broken.Open why

abbrev pub fault_of : Broken → TalkFault
fault_of (broken.Lines why) = InFile (Kept (Lines why))
fault_of (broken.Open why) = InFile (Kept (Open why))
fault_of (broken.Unread why) = Unread why

-- so on a connection that was opened
pub record TalksOpened (may_open : Result Database Error → Type 0) (terms : PlainTerms) (may_read : List ℕ → ℕ → Result (List ℕ) ReadFault → Type 0) (input out_old out_new : Option (List ℕ)) (result : Result Summary TalkFault) : Type 0 where
  pub old : Database
  pub new : Database
  pub opened : may_open (Ok old)
  pub ready : WasReady (file_state old.conn)
  pub ran : TalksKept terms may_read input (file_state old.conn) (file_state new.conn) out_old out_new result

-- or the file was not opened, and no line was read
abbrev pub TalksInFile : (Result Database Error → Type 0) → PlainTerms → (List ℕ → ℕ → Result (List ℕ) ReadFault → Type 0) → Option (List ℕ) → Option (List ℕ) → Option (List ℕ) → Result Summary TalkFault → Type 0
TalksInFile may_open terms may_read input out_old out_new (Ok summary) = TalksOpened may_open terms may_read input out_old out_new (Ok summary)
TalksInFile may_open terms may_read input out_old out_new (Err (InFile (Unopened error))) = may_open (Err error) × (out_new ≡ out_old)
TalksInFile may_open terms may_read input out_old out_new (Err (InFile (Kept fault))) = TalksOpened may_open terms may_read input out_old out_new (Err (InFile (Kept fault)))
TalksInFile may_open terms may_read input out_old out_new (Err (Unread why)) = TalksOpened may_open terms may_read input out_old out_new (Err (Unread why))
