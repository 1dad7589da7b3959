-- A live host on a kept book: lines that are answered, and frames that flow between them.
use Rattle.std.specs.Prelude.{◌≡◌, ◌⊎◌, ⊤, ℕ, List, Option}
use Rattle.journal_model.specs.Book.{PlainBook}
use Rattle.bt_syntax.specs.declared.files.FileText.{FileText}
use Rattle.console_input.specs.declared.source.TheConstants.{MOST_SCRIPT}
use Rattle.console_script.specs.Frames.{console_of}
use Rattle.console_script.specs.Transcript.{Step}
use Rattle.console_script.specs.declared.summary.Summary.{Summary}
use Rattle.console_talk.specs.declared.manner.Manner.TheVariants.{Dialogue}
use Rattle.console_talk.specs.Talk.{Said, Standing, standing, Place, place, HasComeTo, MayStop, TookAtMost}
use Rattle.kept_host.specs.Talks.{GoesKept, IsNext, IsBegun}
use Rattle.thread_frames.specs.declared.frame.FrameIn.{FrameIn}
use Rattle.thread_kept_frames.specs.declared.live.course.Course.{Course}
use Rattle.thread_kept_frames.specs.Portions.{Flowing, flowing, Flowed}

-- where a live host stands: its dialogue, and how far its frames have come
pub record LivePlace (S : Type 0) : Type 0 where
  pub talk : Place S
  pub course : Course

abbrev pub beside : {S : Type 0} → Place S → Course → LivePlace S
beside talk course = record { talk = talk; course = course }

abbrev pub book_at : {S : Type 0} → LivePlace S → PlainBook
book_at at = at.talk.at.console.book

-- a dialogue whose book is another, and in which nothing else changed
abbrev pub on_book : {S : Type 0} → Place S → PlainBook → Place S
on_book it b = place it.boxes (standing (console_of b it.at.console.runs) it.at.summary) it.text

-- ---- by the frames that flow, for so many passes
module _ (all : List FrameIn) (passes : Option ℕ) where
  -- portions of them were served, and of the dialogue that changed the book alone
  pub record FramesFlow {S : Type 0} (from to : LivePlace S) : Type 0 where
    pub flowed : Flowed all passes (flowing (book_at from) from.course) (flowing (book_at to) to.course)
    pub only : to.talk ≡ on_book from.talk (book_at to)

  module _ {S : Type 0} (supplied : S → List Step → S → Type 0) (named : List ℕ → List FileText → Type 0) where
    -- frames flowed, and then a line went as in a dialogue on a kept book, by what holds of the disk
    pub record GoesLive (Holds : Type 0) (it : Said) (from to : LivePlace S) : Type 0 where
      pub mid : Place S
      pub flow : FramesFlow from (beside mid to.course)
      pub went : GoesKept supplied named Holds it mid to.talk

    -- up to here, lines of an input were given and went so, none of them ended the dialogue, and then frames flowed
    pub record HasLived (Holds : Type 0) (input : Option (List ℕ)) (from : LivePlace S) (left : Option (List ℕ)) (to : LivePlace S) : Type 0 where
      pub last : LivePlace S
      pub came : HasComeTo (GoesLive Holds) Dialogue input from left last
      pub flow : FramesFlow last to

    -- each line of an input went so, up to its end or to a line that ends the dialogue, and then frames flowed
    pub record LivedThrough (Holds : Type 0) (input : Option (List ℕ)) (from : LivePlace S) (book : PlainBook) (boxes : S) (text : Option (List ℕ)) (summary : Summary) (course : Course) : Type 0 where
      pub unsaid : Option (List ℕ)
      pub end : Standing
      pub lived : HasLived Holds input from unsaid (beside (place boxes end text) course)
      pub stops : MayStop Dialogue unsaid
      pub took : TookAtMost MOST_SCRIPT input unsaid
      pub left : book ≡ end.console.book
      pub counts : summary ≡ end.summary

    -- the book after the first lines of an input, each of which was answered, and after whole portions of frames between them and
    -- after the last one; and maybe after the first steps of the next line, with each one whose answer was written, or with a front
    -- of what that line looks at
    pub record IsLiveFront (input : Option (List ℕ)) (from : LivePlace S) (new : Option (List ℕ)) (left : PlainBook) : Type 0 where
      pub unsaid : Option (List ℕ)
      pub to : LivePlace S
      pub lived : HasLived ⊤ input from unsaid to
      pub further : ((left ≡ book_at to) × (new ≡ to.talk.text)) ⊎ ((line : List ℕ) × IsNext unsaid line × IsBegun named to.talk.at line to.talk.text new left)
