-- What a line does, and what it answers. How it went goes with it: whether an allocation failed in it or in an access of
-- its run, the verdict on the program that it loads, and the steps of its frame; and the blank of the box that it got of the
-- supplier.
use Rattle.std.specs.Prelude.{ℕ, Bool, true, false, ◌&&◌, nat_le, if◌then◌else◌, List, [], ◌∷◌, length, Option, Some, None, Result, Ok, Err, ⊤}
use Rattle.journal_model.specs.Blank.{Blank}
use Rattle.journal_model.specs.Book.{PlainBook}
use Rattle.console_operand.specs.Word.{words}
use Rattle.bt_syntax.specs.Files.{opened}
use Rattle.bt_syntax.specs.Steps.{line_read}
use Rattle.bt_syntax.specs.declared.command.Command.{Command}
use Rattle.bt_syntax.specs.declared.fault.SyntaxFault.{SyntaxFault}
use Rattle.bt_syntax.specs.declared.files.FileText.{FileText}
use Rattle.console_answer.specs.Answers.{syntax_fault_of}
use Rattle.bt_console.specs.Commands.{Course, command_done, IsRight, UnlessRefused}
use Rattle.bt_console.specs.Frames.{Console}
use Rattle.console_text.specs.Text.{text_of}
use Rattle.console_answer.specs.declared.answer.Answer.{Answer}
use Rattle.console_answer.specs.declared.answer.Answer.TheVariants as answer
use Rattle.console_answer.specs.declared.fault.Fault.TheVariants.{NoMemory}

abbrev pub answered : Console × Answer → Console × Option Answer
answered done = (done.0, Some done.1)

-- what a line comes to, with the bytes of its program in place of a file that is at hand
abbrev pub with_files : List FileText → Result (Option Command) SyntaxFault → Result (Option Command) SyntaxFault
with_files files (Ok None) = Ok None
with_files files (Ok (Some command)) = Ok (Some (opened files command))
with_files files (Err fault) = Err fault

-- what a line does that reads so: a line without words does nothing and answers nothing
abbrev pub read_done : Console → Course → Option Blank → Result (Option Command) SyntaxFault → Console × Option Answer
read_done c course blank (Ok None) = (c, None)
read_done c course blank (Ok (Some command)) = answered (command_done c course command blank)
read_done c course blank (Err fault) = (c, Some (answer.Refused (syntax_fault_of fault)))

-- the verdict is right, if a program is loaded, and the steps of a frame come to its end
abbrev pub IsRightRead : PlainBook → Course → Result (Option Command) SyntaxFault → Type 0
IsRightRead b course (Ok None) = ⊤
IsRightRead b course (Ok (Some command)) = IsRight b course command
IsRightRead b course (Err fault) = ⊤

abbrev pub IsRightLine : List FileText → PlainBook → Course → List ℕ → Type 0
IsRightLine files b course line = UnlessRefused course.refused (IsRightRead b course (with_files files (line_read line)))

abbrev pub has_any : List (List ℕ) → Bool
has_any [] = false
has_any (word ∷ words) = true

-- a line that is too long takes no memory, and neither does one without words
abbrev pub takes_memory : List ℕ → Bool
takes_memory line = nat_le (length line) 131072 && has_any (words line)

-- the console after a line, and its answer; if an allocation failed that is no memory. A line that runs a batch is
-- refused here, since it stands in a batch
abbrev pub line_done : List FileText → Course → Console → Option Blank → List ℕ → Console × Option Answer
line_done files course c blank line =
    if course.refused && takes_memory line then (c, Some (answer.Refused NoMemory)) else read_done c course blank (with_files files (line_read line))

-- what is answered to words that were not read for lack of memory
abbrev pub unread_answer : List (List ℕ) → Option Answer
unread_answer [] = None
unread_answer (word ∷ words) = Some (answer.Refused NoMemory)

abbrev pub line_text : Option Answer → List ℕ
line_text None = []
line_text (Some it) = text_of it
