-- A talk: lines that are answered one by one, each when it is given.
use Rattle.std.specs.Prelude.{◌≡◌, ◌⊎◌, ◌≤◌, ℕ, ◌+◌, List, [], ◌∷◌, length, take, Option, Some, None, IfSome, option_map, ⊤, codes}
use Rattle.std.specs.Io.KnownBytes.{Appends}
use Rattle.journal_model.specs.Book.{PlainBook}
use Rattle.console_operand.specs.Line.{lines_of}
use Rattle.console_operand.specs.Word.{words}
use Rattle.bt_syntax.specs.declared.files.FileText.{FileText}
use Rattle.console_input.specs.declared.source.TheConstants.{MOST_SCRIPT}
use Rattle.console_script.specs.Frames.{Console, console_of, no_runs}
use Rattle.console_script.specs.declared.summary.Summary.{Summary}
use Rattle.console_script.specs.Transcript.{Session, session_of, no_counts, Step, after_steps, transcript, AreRight}
use Rattle.console_looks.specs.LookGrammar.{look_in}
use Rattle.console_looks.specs.Answered.{ShowsSerial}
use Rattle.console_looks.specs.declared.look.Look.{Look}
use Rattle.console_looks.specs.declared.look.Look.TheVariants.{Show, DryUndo}
use Rattle.console_talk.specs.declared.manner.Manner.{Manner}
use Rattle.console_talk.specs.declared.manner.Manner.TheVariants.{Script, Dialogue}

-- a line that was given, and the files that were at hand for it
pub record Said : Type 0 where
  pub line : List ℕ
  pub files : List FileText

abbrev pub said : List ℕ → List FileText → Said
said line files = record { line = line; files = files }

-- where a talk stands between two lines: the console, and how many lines were accepted and refused
pub record Standing : Type 0 where
  pub console : Console
  pub summary : Summary

abbrev pub standing : Console → Summary → Standing
standing c summary = record { console = c; summary = summary }

-- and with what supplies its boxes, and what is written
pub record Place (S : Type 0) : Type 0 where
  pub boxes : S
  pub at : Standing
  pub text : Option (List ℕ)

abbrev pub place : {S : Type 0} → S → Standing → Option (List ℕ) → Place S
place boxes at text = record { boxes = boxes; at = at; text = text }

-- before the first line
abbrev pub silent : PlainBook → Standing
silent b = standing (console_of b no_runs) no_counts

-- as a script that has just this line, and as one that has come to its end
abbrev pub before : Standing → List ℕ → Session
before at line = session_of at.console at.summary (line ∷ []) None

abbrev pub behind : Standing → Session
behind at = session_of at.console at.summary [] None

-- this word is the first one
abbrev pub HasFirst : List (List ℕ) → List ℕ → Type 0
HasFirst words word = (rest : List (List ℕ)) × (words ≡ word ∷ rest)

-- a line that asks for help; none of a script does
abbrev pub AsksForHelp : List ℕ → Type 0
AsksForHelp line = HasFirst (words line) (codes "help") ⊎ HasFirst (words line) (codes "?")

abbrev pub Asks : Manner → List ℕ → Type 0
Asks Script line = ⊥
Asks Dialogue line = AsksForHelp line

-- the look for which a line asks; none of a script does
abbrev pub looks : Manner → List ℕ → Option Look
looks Script line = None
looks Dialogue line = look_in (words line)

-- what a look tells on the output: an undo that is only looked at tells nothing there
abbrev pub TellsLook : Look → PlainBook → Option (List ℕ) → Option (List ℕ) → Type 0
TellsLook (Show serial) b old new = ShowsSerial serial b old new
TellsLook (DryUndo mark) b old new = new ≡ old

module _ {S : Type 0} (supplied : S → List Step → S → Type 0) (named : List ℕ → List FileText → Type 0) where
  -- a line was run as a script of that line alone is, with the files that it names and with boxes that were supplied so, and
  -- the transcript was written
  pub record IsAnswered (it : Said) (from : S) (at : Standing) (old : Option (List ℕ)) (to : S) (end : Standing) (new : Option (List ℕ)) : Type 0 where
    pub files : named it.line it.files
    pub run : List Step
    pub boxes : supplied from run to
    pub right : AreRight it.files (before at it.line) run
    pub written : Appends old new (transcript it.files (before at it.line) run)
    pub is : behind end ≡ after_steps it.files (before at it.line) run

  -- a line that asks for help does, writes and counts nothing
  pub record IsHelped (manner : Manner) (it : Said) (from : S) (at : Standing) (old : Option (List ℕ)) (to : S) (end : Standing) (new : Option (List ℕ)) : Type 0 where
    pub asks : Asks manner it.line
    pub boxes : to ≡ from
    pub is : end ≡ at
    pub written : new ≡ old

  -- a line that asks for a look does and counts nothing, and tells what it looks at
  pub record IsLooked (manner : Manner) (it : Said) (from : S) (at : Standing) (old : Option (List ℕ)) (to : S) (end : Standing) (new : Option (List ℕ)) : Type 0 where
    pub asks_not : ¬ (Asks manner it.line)
    pub look : Look
    pub looks_so : looks manner it.line ≡ Some look
    pub boxes : to ≡ from
    pub is : end ≡ at
    pub tells : TellsLook look at.console.book old new

  -- and any other is answered
  pub record IsHeard (manner : Manner) (it : Said) (from : S) (at : Standing) (old : Option (List ℕ)) (to : S) (end : Standing) (new : Option (List ℕ)) : Type 0 where
    pub asks_not : ¬ (Asks manner it.line)
    pub looks_not : looks manner it.line ≡ None
    pub answered : IsAnswered it from at old to end new

  abbrev pub Goes : Manner → Said → S → Standing → Option (List ℕ) → S → Standing → Option (List ℕ) → Type 0
  Goes manner it from at old to end new =
      IsHelped manner it from at old to end new ⊎ (IsLooked manner it from at old to end new ⊎ IsHeard manner it from at old to end new)

  abbrev pub GoesAt : Manner → Said → Place S → Place S → Type 0
  GoesAt manner it from to = Goes manner it from.boxes from.at from.text to.boxes to.at to.text

-- these lines, of which the last stands first, and then the others
abbrev pub lines_then : List Said → List (List ℕ) → List (List ℕ)
lines_then [] left = left
lines_then (it ∷ earlier) left = lines_then earlier (it.line ∷ left)

-- of an input, if its bytes are known, these lines were given, and then comes what is left
abbrev pub Gave : Option (List ℕ) → List Said → Option (List ℕ) → Type 0
Gave None said left = ⊤
Gave (Some text) said None = ⊥
Gave (Some text) said (Some left) = lines_of text ≡ lines_then said (lines_of left)

-- a line that ends a dialogue; none ends a script
abbrev pub EndsDialogue : List ℕ → Type 0
EndsDialogue line = (words line ≡ codes "quit" ∷ []) ⊎ (words line ≡ codes "exit" ∷ [])

abbrev pub Ends : Manner → List ℕ → Type 0
Ends Script line = ⊥
Ends Dialogue line = EndsDialogue line

abbrev pub NoneEnds : Manner → List Said → Type 0
NoneEnds manner [] = ⊤
NoneEnds manner (it ∷ earlier) = ¬ (Ends manner it.line) × NoneEnds manner earlier

-- ---- lines that go one after the other, by what each leads from and to
module _ {P : Type 0} (goes : Said → P → P → Type 0) where
  -- the last line went on from where the earlier ones led
  pub record LastGoes (it : Said) (Led : P → Type 0) (to : P) : Type 0 where
    pub mid : P
    pub earlier : Led mid
    pub last : goes it mid to

  -- all went, of which the last stands first
  abbrev pub AllGo : List Said → P → P → Type 0
  AllGo [] from to = to ≡ from
  AllGo (it ∷ earlier) from to = LastGoes it (AllGo earlier from) to

  -- up to here, lines of an input were given and went so, and none of them ended the talk
  pub record HasComeTo (manner : Manner) (input : Option (List ℕ)) (from : P) (left : Option (List ℕ)) (to : P) : Type 0 where
    pub said : List Said
    pub went : AllGo said from to
    pub gave : Gave input said left
    pub none_ends : NoneEnds manner said

-- a talk may stop at the end of its input, and at a line that ends it
abbrev pub MayStopAt : Manner → List (List ℕ) → Type 0
MayStopAt manner [] = ⊤
MayStopAt manner (line ∷ lines) = Ends manner line

abbrev pub MayStop : Manner → Option (List ℕ) → Type 0
MayStop manner None = ⊤
MayStop manner (Some left) = MayStopAt manner (lines_of left)

-- of an input, if its bytes are known, so many were taken at most
abbrev pub TookAtMost : ℕ → Option (List ℕ) → Option (List ℕ) → Type 0
TookAtMost most None left = ⊤
TookAtMost most (Some text) None = ⊥
TookAtMost most (Some text) (Some left) = length text ≤ length left + most

module _ {S : Type 0} (supplied : S → List Step → S → Type 0) (named : List ℕ → List FileText → Type 0) (manner : Manner) (input : Option (List ℕ)) (b : PlainBook) (from : S) (old : Option (List ℕ)) where
  abbrev pub HasCome : Option (List ℕ) → S → Standing → Option (List ℕ) → Type 0
  HasCome left to at new = HasComeTo (GoesAt supplied named manner) manner input (place from (silent b) old) left (place to at new)

  -- each line of an input went so, up to its end or to a line that ends the talk
  pub record Talked (book : PlainBook) (to : S) (new : Option (List ℕ)) (summary : Summary) : Type 0 where
    pub unsaid : Option (List ℕ)
    pub end : Standing
    pub came : HasCome unsaid to end new
    pub stops : MayStop manner unsaid
    pub took : TookAtMost MOST_SCRIPT input unsaid
    pub left : book ≡ end.console.book
    pub counts : summary ≡ end.summary

-- with boxes of which this holds, whatever supplied them
abbrev pub with_boxes : (List Step → Type 0) → Unit {0} → List Step → Unit {0} → Type 0
with_boxes Boxes from run to = Boxes run

-- the first bytes of an input, one more than a script has at most
abbrev pub front : Option (List ℕ) → Option (List ℕ)
front input = option_map (take (MOST_SCRIPT + 1)) input

-- an input that is all answered, as that of a dialogue need not be, has no more bytes than a script has at most
abbrev pub IsWhole : Manner → Option (List ℕ) → Type 0
IsWhole Script input = IfSome input (λ text. length text ≤ MOST_SCRIPT)
IsWhole Dialogue input = ⊤
